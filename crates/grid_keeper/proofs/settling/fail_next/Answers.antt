use Rattle.std.proofs.Common.{Some}
use Rattle.grid_types.specs.declared.entry.FailWhy.TheVariants as why
use Rattle.grid_types.specs.Calls.{Call}
use Rattle.hub_core.specs.HubView.{past}
use Rattle.hub_core.specs.Replies.{failing_reply}
use Rattle.grid_keeper.proofs.AlongLemmas.{call_along}
use Rattle.grid_keeper.proofs.SettleLemmas.{fail_step}
use Rattle.grid_keeper.proofs.settling.fail_next.Goals as goal

pub returns-in_err-fail-clause-went : goal.returns-in_err-fail-clause-went
returns-in_err-fail-clause-went g c = call_along g.K.Keeper.disk c.args.hub.now c.fail.new.self (Call.fail c.in-Some.reservation why.Unreachable) _ failing_reply c.fail.result c.fail.ensures.kept

pub returns-clause-went : goal.returns-clause-went
returns-clause-went g c = call_along g.K.Keeper.disk c.args.hub.now c.fail.new.self (Call.fail c.in-Some.reservation why.Unreachable) _ failing_reply c.fail.result c.fail.ensures.kept

pub returns-clause-step : goal.returns-clause-step
returns-clause-step g c =
    let lost = c.in-Some.ensures (past c.args.hub.now.hub) c.requires.all.holds in
    fail_step g.K.Keeper.disk c.tokens_come_from_replies.ensures c.history_laws.ensures c.args.hub.now c.fail.new.self c.args.left.now c.pop_by.new.self c.in-Some.reservation why.Unreachable _ _ c.requires c.journal-legal.ensures.legal lost c.in_ok-fail.ensures.kept
