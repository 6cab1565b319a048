use Rattle.std.proofs.Common.{refl, ap, length}
use Rattle.grid_types.specs.Calls.{Call}
use Rattle.hub_core.specs.HubView.{past}
use Rattle.hub_core.specs.Replies.{removal_reply}
use Rattle.grid_journal.specs.declared.rows.Row.TheVariants as row
use Rattle.grid_keeper.specs.Holds.{HoldsAll}
use Rattle.grid_keeper.proofs.HoldsLemmas.{served}
use Rattle.grid_keeper.proofs.ThereLemmas.{all_there, removal-given}
use Rattle.grid_keeper.proofs.AgainLemmas.{went, from_room, all_roomy, removal-some}
use Rattle.grid_keeper.proofs.again.plain.remove.Goals as goal

pub returns : goal.returns
returns c =
    let made = c.in_ok-room.ensures.ok in
    let mid = c.room.new.self in
    let new = c.remove-answer.new.self in
    let left = c.args.left.now in
    let all = all_roomy c.args.hub.now mid left made c.requires.holds in
    let serves = c.remove-answer.ensures.serves in
    let some = removal-some c.remove-answer.result in
    let there = all_there c.tokens_come_from_replies.ensures mid.config (past mid) (past new) (Call.remove c.args.node) c.args.at.0 (removal_reply c.remove-answer.result) left
    c.journal-before.ensures.legal serves.answers some all.complete (removal-given c.remove-answer.result left) in
    let holds : HoldsAll (past new) left = record { holds = served _ _ _ _ _ _ left serves tt all.holds; complete = there } in
    from_room c.args.hub.now mid new left (row.Remove c.args.node c.args.at) _ made
    (went mid new left (row.Remove c.args.node c.args.at) (Call.remove c.args.node) (removal_reply c.remove-answer.result) _ _ (ap length c.journal-before.ensures.journal) (ap length c.journal.ensures.journal) c.requires.fits refl
    (λ other named. named) (record { is_good = refl; is_true = tt }) some c.remove-answer.ensures holds)
