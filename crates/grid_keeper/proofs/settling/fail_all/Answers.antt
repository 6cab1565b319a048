use Rattle.std.proofs.Common.{arith}
use Rattle.grid_keeper.proofs.AlongLemmas.{along_same, along_on, closed_along}
use Rattle.grid_keeper.proofs.SettleLemmas.{failed_one, failed_none}
use Rattle.grid_keeper.proofs.settling.fail_all.Goals as goal

pub loop-init : goal.loop-init
loop-init g c = (along_same g.K.Keeper.disk c.args.hub.now c.requires.open_now, c.requires, omega arith)

pub loop-preserved : goal.loop-preserved
loop-preserved g c = (
  along_on g.K.Keeper.disk c.args.hub.now c.loop.hub c.fail_next.new.hub c.fail_next.ensures.went c.loop.invariant.0,
  failed_one g.K.Keeper.disk c.fail_next.new.hub c.fail_next.new.left c.in_ok-fail_next.field-0 c.if-not-branch.false c.in_ok-fail_next.ensures.step,
  omega (arith, c.loop.invariant.2, c.fail_next.ensures.later),
)

pub returns-in_err-fail_next-clause-went : goal.returns-in_err-fail_next-clause-went
returns-in_err-fail_next-clause-went g c = along_on g.K.Keeper.disk c.args.hub.now c.loop.hub c.fail_next.new.hub c.fail_next.ensures.went c.loop.invariant.0

pub returns-then-not-branch-clause-went : goal.returns-then-not-branch-clause-went
returns-then-not-branch-clause-went g c = along_on g.K.Keeper.disk c.args.hub.now c.loop.hub c.fail_next.new.hub c.fail_next.ensures.went c.loop.invariant.0

pub returns-clause-went : goal.returns-clause-went
returns-clause-went g c =
    along_on g.K.Keeper.disk c.args.hub.now c.loop.hub c.close-2.new.self (closed_along g.K.Keeper.disk c.loop.hub c.close-2.new.self c.loop.invariant.1.open_now c.close-2.ensures.hub c.close-2.ensures.keeper) c.loop.invariant.0

pub returns-then-not-branch-clause-ready : goal.returns-then-not-branch-clause-ready
returns-then-not-branch-clause-ready g c = (failed_none g.K.Keeper.disk c.fail_next.new.hub c.fail_next.new.left c.in_ok-fail_next.field-0 c.if-not-branch.true c.in_ok-fail_next.ensures.step).0

pub returns-then-not-branch-clause-none : goal.returns-then-not-branch-clause-none
returns-then-not-branch-clause-none g c = (failed_none g.K.Keeper.disk c.fail_next.new.hub c.fail_next.new.left c.in_ok-fail_next.field-0 c.if-not-branch.true c.in_ok-fail_next.ensures.step).1

pub returns-in_default-clause-went : goal.returns-in_default-clause-went
returns-in_default-clause-went g c = closed_along g.K.Keeper.disk c.args.hub.now c.close.new.self c.requires.open_now c.close.ensures.hub c.close.ensures.keeper
