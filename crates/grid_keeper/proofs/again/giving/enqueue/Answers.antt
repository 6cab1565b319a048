use Rattle.std.proofs.Common.{refl, ap, length}
use Rattle.grid_types.specs.Calls.{Call}
use Rattle.hub_core.specs.HubView.{past}
use Rattle.hub_core.specs.Replies.{enqueued_reply}
use Rattle.grid_journal.specs.declared.rows.Row.TheVariants as row
use Rattle.grid_keeper.specs.Holds.{open_after, HoldsAll}
use Rattle.grid_keeper.proofs.HoldsLemmas.{served, enqueued-good}
use Rattle.grid_keeper.proofs.ThereLemmas.{all_there, enqueued-given}
use Rattle.grid_keeper.proofs.AgainLemmas.{went, from_room, all_roomy}
use Rattle.grid_keeper.proofs.KeepLemmas.{may_enqueue}
use Rattle.grid_keeper.proofs.again.giving.enqueue.Goals as goal

pub returns : goal.returns
returns c =
    let made = c.in_ok-room.ensures.ok in
    let mid = c.room.new.self in
    let new = c.enqueue-answer.new.self in
    let left = c.args.left.now in
    let kept = c.keep_enqueued.new.self in
    let all = all_roomy c.args.hub.now mid left made c.requires.holds in
    let serves = c.enqueue-answer.ensures.serves in
    let some = c.in_ok-keep_enqueued.ensures.some in
    let there = all_there c.tokens_come_from_replies.ensures mid.config (past mid) (past new) (Call.enqueue c.args.choices) c.args.at.0 (enqueued_reply c.enqueue-answer.result) kept
    c.journal-before.ensures.legal serves.answers some (c.keep_enqueued.ensures.more (open_after (past mid)) all.complete) (enqueued-given c.enqueue-answer.result kept c.in_ok-keep_enqueued.ensures.has) in
    let good = c.keep_enqueued.ensures.stays (past new) (served _ _ _ _ _ _ left serves tt all.holds) (enqueued-good _ _ _ _ _ _ serves) in
    let holds : HoldsAll (past new) kept = record { holds = good; complete = there } in
    from_room c.args.hub.now mid new kept (row.Enqueue c.args.choices c.args.at) _ made
    (went mid new kept (row.Enqueue c.args.choices c.args.at) (Call.enqueue c.args.choices) (enqueued_reply c.enqueue-answer.result) _ _ (ap length c.journal-before.ensures.journal) (ap length c.journal.ensures.journal) c.requires.fits refl
    (λ other named. named) (may_enqueue (past mid) c.args.choices c.requires.fits.0.0) some c.enqueue-answer.ensures holds)
