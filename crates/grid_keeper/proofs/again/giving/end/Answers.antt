use Rattle.std.proofs.Common.{refl, ap, length}
use Rattle.grid_types.specs.Calls.{Call}
use Rattle.hub_core.specs.HubView.{past}
use Rattle.hub_core.specs.Replies.{ending_reply}
use Rattle.grid_journal.specs.declared.rows.Row.TheVariants as row
use Rattle.grid_keeper.specs.Holds.{open_after, HoldsAll}
use Rattle.grid_keeper.proofs.HoldsLemmas.{served, ended-good}
use Rattle.grid_keeper.proofs.ThereLemmas.{all_there, ended-given}
use Rattle.grid_keeper.proofs.AgainLemmas.{went, from_room, all_roomy, ending-some}
use Rattle.grid_keeper.proofs.again.giving.end.Goals as goal

pub returns : goal.returns
returns c =
    let made = c.in_ok-room.ensures.ok in
    let mid = c.room.new.self in
    let new = c.end-answer.new.self in
    let left = c.args.left.now in
    let kept = c.keep_ended.new.self in
    let all = all_roomy c.args.hub.now mid left made c.requires.holds in
    let serves = c.end-answer.ensures.serves in
    let some = ending-some c.end-answer.result in
    let there = all_there c.tokens_come_from_replies.ensures mid.config (past mid) (past new) (Call.end c.args.session c.args.binding) c.args.at.0 (ending_reply c.end-answer.result) kept
    c.journal-before.ensures.legal serves.answers some (c.keep_ended.ensures.more (open_after (past mid)) all.complete) (ended-given c.end-answer.result kept c.in_ok-keep_ended.ensures.has) in
    let good = c.keep_ended.ensures.stays (past new) (served _ _ _ _ _ _ left serves tt all.holds) (ended-good _ _ _ _ _ _ serves) in
    let holds : HoldsAll (past new) kept = record { holds = good; complete = there } in
    from_room c.args.hub.now mid new kept (row.End c.args.session c.args.binding c.args.at) _ made
    (went mid new kept (row.End c.args.session c.args.binding c.args.at) (Call.end c.args.session c.args.binding) (ending_reply c.end-answer.result) _ _ (ap length c.journal-before.ensures.journal) (ap length c.journal.ensures.journal) c.requires.fits refl
    (λ other named. named) (record { is_good = refl; is_true = tt }) some c.end-answer.ensures holds)
