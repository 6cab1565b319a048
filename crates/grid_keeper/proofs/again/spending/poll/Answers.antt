use Rattle.std.proofs.Common.{refl, ap, sym, ◌∙◌, length, Some}
use Rattle.std.specs.Ordering.{nat_cmp}
use Rattle.std.specs.BTreeMap.{get}
use Rattle.grid_types.specs.Tokens.{ticket_of}
use Rattle.grid_types.specs.Calls.{Call}
use Rattle.hub_core.specs.HubView.{past}
use Rattle.hub_core.specs.Replies.{polled_reply}
use Rattle.grid_journal.specs.declared.rows.Row.TheVariants as row
use Rattle.grid_keeper.specs.Holds.{open_after, HoldsAll}
use Rattle.grid_keeper.proofs.HoldsLemmas.{served, polled-good, absent, may-poll}
use Rattle.grid_keeper.proofs.ThereLemmas.{all_there, polled-given, poll_spared}
use Rattle.grid_keeper.proofs.AgainLemmas.{went, stuck, no_ticket}
use Rattle.grid_keeper.proofs.again.spending.poll.Goals as goal

pub returns : goal.returns
returns c =
    let old = c.args.hub.now in
    let new = c.poll-answer.new.self in
    let ticket = c.in-Some.ticket in
    let good = c.in-Some.ensures.good _ c.requires.holds.holds in
    let left = c.take_ticket.new.self in
    let kept = c.keep_polled.new.self in
    let held = c.in-Some.ensures.stays _ c.requires.holds.holds in
    let gone = absent (get nat_cmp left.tickets) ticket.request c.args.request good.0 c.in-Some.ensures.gone in
    let serves = c.poll-answer.ensures.serves in
    let some = c.in_ok-keep_polled.ensures.some in
    let named = ap (λ t. Call.poll t) (good.2 ∙ ap (ticket_of (past old)) good.0) in
    let spares = poll_spared (past old) left ticket c.args.request good.0 (c.in-Some.ensures.others (open_after (past old)) c.requires.holds.complete) in
    let there = all_there c.tokens_come_from_replies.ensures old.config (past old) (past new) (Call.poll ticket) c.args.at.0 (polled_reply c.poll-answer.result) kept
    c.journal-before.ensures.legal serves.serves.answers some (c.keep_polled.ensures.more _ spares) (polled-given c.poll-answer.result kept c.in_ok-keep_polled.ensures.has) in
    let holds = c.keep_polled.ensures.stays _ (served _ _ _ _ _ _ left serves.serves gone held) (polled-good _ _ _ c.args.request ticket _ _ serves.serves c.poll-answer.ensures.back good) in
    let all : HoldsAll (past new) kept = record { holds = holds; complete = there } in
    went old new kept (row.Poll c.args.request c.args.at) (Call.poll ticket) (polled_reply c.poll-answer.result) _ _ (ap length c.journal-before.ensures.journal) (ap length c.journal.ensures.journal) c.requires.fits named
    (λ other said. said ∙ sym named) (may-poll _ c.args.request ticket good) some serves all

pub returns-in_default : goal.returns-in_default
returns-in_default c = stuck c.args.hub.now c.take_ticket.new.self (row.Poll c.args.request c.args.at) (no_ticket _ (past c.args.hub.now) c.args.left.now c.args.request c.args.at c.requires.holds.complete (c.in_default.ensures.none refl))
