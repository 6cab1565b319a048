use Rattle.std.proofs.Common.{refl, ap, length}
use Rattle.grid_types.specs.Calls.{Call}
use Rattle.hub_core.specs.HubView.{past}
use Rattle.hub_core.specs.Replies.{expiring_reply}
use Rattle.grid_journal.specs.declared.rows.Row.TheVariants as row
use Rattle.grid_keeper.specs.Holds.{open_after, HoldsAll}
use Rattle.grid_keeper.proofs.HoldsLemmas.{served, expired-good}
use Rattle.grid_keeper.proofs.ThereLemmas.{all_there, expired-given}
use Rattle.grid_keeper.proofs.AgainLemmas.{went, from_room, all_roomy, expiring-some}
use Rattle.grid_keeper.proofs.again.giving.expire.Goals as goal

pub returns : goal.returns
returns c =
    let made = c.in_ok-room.ensures.ok in
    let mid = c.room.new.self in
    let new = c.expire-answer.new.self in
    let left = c.args.left.now in
    let kept = c.keep_expired.new.self in
    let all = all_roomy c.args.hub.now mid left made c.requires.holds in
    let serves = c.expire-answer.ensures.serves in
    let some = expiring-some c.expire-answer.result in
    let there = all_there c.tokens_come_from_replies.ensures mid.config (past mid) (past new) (Call.expire) c.args.at.0 (expiring_reply c.expire-answer.result) kept
    c.journal-before.ensures.legal serves.answers some (c.keep_expired.ensures.more (open_after (past mid)) all.complete) (expired-given c.expire-answer.result kept c.in_ok-keep_expired.ensures.has) in
    let good = c.keep_expired.ensures.stays (past new) (served _ _ _ _ _ _ left serves tt all.holds) (expired-good _ _ _ _ _ _ serves) in
    let holds : HoldsAll (past new) kept = record { holds = good; complete = there } in
    from_room c.args.hub.now mid new kept (row.Expire c.args.at) _ made
    (went mid new kept (row.Expire c.args.at) (Call.expire) (expiring_reply c.expire-answer.result) _ _ (ap length c.journal-before.ensures.journal) (ap length c.journal.ensures.journal) c.requires.fits refl
    (λ other named. named) (record { is_good = refl; is_true = tt }) some c.expire-answer.ensures holds)
