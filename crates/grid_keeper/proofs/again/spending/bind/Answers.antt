use Rattle.std.proofs.Common.{refl, ap, ◌∙◌, length, Some}
use Rattle.std.specs.Ordering.{nat_cmp}
use Rattle.std.specs.BTreeMap.{get}
use Rattle.grid_types.specs.Tokens.{reservation_of}
use Rattle.grid_types.specs.Calls.{Call}
use Rattle.hub_core.specs.HubView.{past}
use Rattle.hub_core.specs.Replies.{binding_reply}
use Rattle.grid_journal.specs.declared.rows.Row.TheVariants as row
use Rattle.grid_keeper.specs.Holds.{open_after, HoldsAll}
use Rattle.grid_keeper.proofs.HoldsLemmas.{served, bound-good, absent, may-bind}
use Rattle.grid_keeper.proofs.ThereLemmas.{all_there, bound-given, bind_spared}
use Rattle.grid_keeper.proofs.AgainLemmas.{went_always, bind-grows, stuck, no_bind}
use Rattle.grid_keeper.proofs.again.spending.bind.Goals as goal

pub returns : goal.returns
returns c =
    let old = c.args.hub.now in
    let new = c.bind-answer.new.self in
    let reservation = c.in-Some.reservation in
    let good = c.in-Some.ensures.good _ c.requires.holds.holds in
    let left = c.take_reservation.new.self in
    let kept = c.keep_bound.new.self in
    let held = c.in-Some.ensures.stays _ c.requires.holds.holds in
    let gone = absent (get nat_cmp left.reservations) reservation.request c.args.request good.0 c.in-Some.ensures.gone in
    let serves = c.bind-answer.ensures.serves in
    let some = c.in_ok-keep_bound.ensures.some in
    let spares = bind_spared c.history_laws.ensures old.config (past old) left reservation c.args.session c.args.caps c.args.request c.journal-before.ensures.legal good.1 good.0
    (c.in-Some.ensures.others (open_after (past old)) c.requires.holds.complete) in
    let there = all_there c.tokens_come_from_replies.ensures old.config (past old) (past new) (Call.bind reservation c.args.session c.args.caps) c.args.at.0 (binding_reply c.bind-answer.result) kept
    c.journal-before.ensures.legal serves.serves.answers some (c.keep_bound.ensures.more _ spares) (bound-given c.bind-answer.result kept c.in_ok-keep_bound.ensures.has) in
    let holds = c.keep_bound.ensures.stays _ (served _ _ _ _ _ _ left serves.serves gone held) (bound-good _ _ _ c.args.request reservation _ _ _ _ serves.serves c.bind-answer.ensures.back good) in
    let all : HoldsAll (past new) kept = record { holds = holds; complete = there } in
    went_always old new kept (row.Bind c.args.request c.args.session c.args.caps c.args.at) (Call.bind reservation c.args.session c.args.caps) (binding_reply c.bind-answer.result) _ _ (ap length c.journal-before.ensures.journal) (ap length c.journal.ensures.journal) c.requires.fits (reservation.slot, ap (λ t. Call.bind t c.args.session c.args.caps) (good.2 ∙ ap (λ q. reservation_of (past old) q reservation.slot) good.0))
    (bind-grows old.config (past old) reservation c.args.session c.args.caps c.args.at.0) (may-bind _ c.args.request reservation c.args.session c.args.caps good) some serves all

pub returns-in_default : goal.returns-in_default
returns-in_default c = stuck c.args.hub.now c.take_reservation.new.self (row.Bind c.args.request c.args.session c.args.caps c.args.at) (no_bind _ (past c.args.hub.now) c.args.left.now c.args.request c.args.session c.args.caps c.args.at c.requires.holds.complete (c.in_default.ensures.none refl))
