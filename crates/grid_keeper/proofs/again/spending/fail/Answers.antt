use Rattle.std.proofs.Common.{refl, ap, ◌∙◌, length, Some}
use Rattle.std.specs.Ordering.{nat_cmp}
use Rattle.std.specs.BTreeMap.{get}
use Rattle.grid_types.specs.Tokens.{reservation_of}
use Rattle.grid_types.specs.Calls.{Call}
use Rattle.hub_core.specs.HubView.{past}
use Rattle.hub_core.specs.Replies.{failing_reply}
use Rattle.grid_journal.specs.declared.rows.Row.TheVariants as row
use Rattle.grid_keeper.specs.Holds.{open_after, HoldsAll}
use Rattle.grid_keeper.proofs.HoldsLemmas.{served, absent, may-fail}
use Rattle.grid_keeper.proofs.ThereLemmas.{all_there, failing-given, fail_spared}
use Rattle.grid_keeper.proofs.AgainLemmas.{went_always, fail-grows, failing-some, stuck, no_fail}
use Rattle.grid_keeper.proofs.again.spending.fail.Goals as goal

pub returns : goal.returns
returns c =
    let old = c.args.hub.now in
    let new = c.fail-answer.new.self in
    let reservation = c.in-Some.reservation in
    let good = c.in-Some.ensures.good _ c.requires.holds.holds in
    let left = c.take_reservation.new.self in
    let held = c.in-Some.ensures.stays _ c.requires.holds.holds in
    let gone = absent (get nat_cmp left.reservations) reservation.request c.args.request good.0 c.in-Some.ensures.gone in
    let serves = c.fail-answer.ensures in
    let some = failing-some c.fail-answer.result in
    let spares = fail_spared c.history_laws.ensures old.config (past old) left reservation c.args.why c.args.request c.journal-before.ensures.legal good.1 good.0
    (c.in-Some.ensures.others (open_after (past old)) c.requires.holds.complete) in
    let there = all_there c.tokens_come_from_replies.ensures old.config (past old) (past new) (Call.fail reservation c.args.why) c.args.at.0 (failing_reply c.fail-answer.result) left
    c.journal-before.ensures.legal serves.serves.answers some spares (failing-given c.fail-answer.result left) in
    let holds = served _ _ _ _ _ _ left serves.serves gone held in
    let all : HoldsAll (past new) left = record { holds = holds; complete = there } in
    went_always old new left (row.Fail c.args.request c.args.why c.args.at) (Call.fail reservation c.args.why) (failing_reply c.fail-answer.result) _ _ (ap length c.journal-before.ensures.journal) (ap length c.journal.ensures.journal) c.requires.fits (reservation.slot, ap (λ t. Call.fail t c.args.why) (good.2 ∙ ap (λ q. reservation_of (past old) q reservation.slot) good.0))
    (fail-grows old.config (past old) reservation c.args.why c.args.at.0) (may-fail _ c.args.request reservation c.args.why good c.requires.cause) some serves all

pub returns-in_default : goal.returns-in_default
returns-in_default c = stuck c.args.hub.now c.take_reservation.new.self (row.Fail c.args.request c.args.why c.args.at) (no_fail _ (past c.args.hub.now) c.args.left.now c.args.request c.args.why c.args.at c.requires.holds.complete (c.in_default.ensures.none refl))
