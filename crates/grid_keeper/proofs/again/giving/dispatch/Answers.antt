use Rattle.std.proofs.Common.{refl, ap, length}
use Rattle.grid_types.specs.Calls.{Call}
use Rattle.hub_core.specs.HubView.{past}
use Rattle.hub_core.specs.Replies.{dispatched_reply}
use Rattle.grid_journal.specs.declared.rows.Row.TheVariants as row
use Rattle.grid_keeper.specs.Holds.{open_after, HoldsAll}
use Rattle.grid_keeper.proofs.HoldsLemmas.{served, dispatched-good}
use Rattle.grid_keeper.proofs.ThereLemmas.{all_there, dispatched-given}
use Rattle.grid_keeper.proofs.AgainLemmas.{went}
use Rattle.grid_keeper.proofs.again.giving.dispatch.Goals as goal

pub returns : goal.returns
returns c =
    let old = c.args.hub.now in
    let new = c.dispatch-answer.new.self in
    let left = c.args.left.now in
    let kept = c.keep_dispatched.new.self in
    let all = c.requires.holds in
    let serves = c.dispatch-answer.ensures.serves in
    let some = c.in_ok-keep_dispatched.ensures.some in
    let there = all_there c.tokens_come_from_replies.ensures old.config (past old) (past new) Call.dispatch c.args.at.0 (dispatched_reply c.dispatch-answer.result) kept
    c.journal-before.ensures.legal serves.answers some (c.keep_dispatched.ensures.more (open_after (past old)) all.complete) (dispatched-given c.dispatch-answer.result kept c.in_ok-keep_dispatched.ensures.has) in
    let good = c.keep_dispatched.ensures.stays (past new) (served _ _ _ _ _ _ left serves tt all.holds) (dispatched-good _ _ _ _ _ _ serves) in
    let holds : HoldsAll (past new) kept = record { holds = good; complete = there } in
    went old new kept (row.Dispatch c.args.at) Call.dispatch (dispatched_reply c.dispatch-answer.result) _ _ (ap length c.journal-before.ensures.journal) (ap length c.journal.ensures.journal) c.requires.fits refl
    (λ other named. named) (record { is_good = refl; is_true = tt }) some c.dispatch-answer.ensures holds
