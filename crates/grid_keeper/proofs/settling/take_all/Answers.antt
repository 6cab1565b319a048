use Rattle.std.proofs.Common.{arith}
use Rattle.grid_keeper.proofs.AlongLemmas.{along_same, along_on, closed_along}
use Rattle.grid_keeper.proofs.SettleLemmas.{took_one, took_none}
use Rattle.grid_keeper.proofs.settling.take_all.Goals as goal

pub loop-init : goal.loop-init
loop-init g c = (along_same g.K.Keeper.disk c.args.hub.now c.requires.open_now, c.requires, omega arith, λ first so_far. so_far)

pub loop-preserved : goal.loop-preserved
loop-preserved g c = (
  along_on g.K.Keeper.disk c.args.hub.now c.loop.hub c.take_next.new.hub c.take_next.ensures.went c.loop.invariant.0,
  took_one g.K.Keeper.disk c.take_next.new.hub c.take_next.new.left c.in_ok-take_next.field-0 c.if-not-branch.false c.in_ok-take_next.ensures.step,
  omega (arith, c.loop.invariant.2, c.take_next.ensures.later),
  λ first so_far. c.take_next.ensures.asks first (c.loop.invariant.3 first so_far),
)

pub returns-in_err-take_next-clause-went : goal.returns-in_err-take_next-clause-went
returns-in_err-take_next-clause-went g c = along_on g.K.Keeper.disk c.args.hub.now c.loop.hub c.take_next.new.hub c.take_next.ensures.went c.loop.invariant.0

pub returns-then-not-branch-clause-went : goal.returns-then-not-branch-clause-went
returns-then-not-branch-clause-went g c = along_on g.K.Keeper.disk c.args.hub.now c.loop.hub c.take_next.new.hub c.take_next.ensures.went c.loop.invariant.0

pub returns-clause-went : goal.returns-clause-went
returns-clause-went g c =
    along_on g.K.Keeper.disk c.args.hub.now c.loop.hub c.close.new.self (closed_along g.K.Keeper.disk c.loop.hub c.close.new.self c.loop.invariant.1.open_now c.close.ensures.hub c.close.ensures.keeper) c.loop.invariant.0

pub returns-then-not-branch-clause-open : goal.returns-then-not-branch-clause-open
returns-then-not-branch-clause-open g c = (took_none g.K.Keeper.disk c.take_next.new.hub c.take_next.new.left c.in_ok-take_next.field-0 c.if-not-branch.true c.in_ok-take_next.ensures.step).0

pub returns-then-not-branch-clause-none : goal.returns-then-not-branch-clause-none
returns-then-not-branch-clause-none g c = (took_none g.K.Keeper.disk c.take_next.new.hub c.take_next.new.left c.in_ok-take_next.field-0 c.if-not-branch.true c.in_ok-take_next.ensures.step).1

pub returns-then-not-branch-clause-tickets : goal.returns-then-not-branch-clause-tickets
returns-then-not-branch-clause-tickets g c = (took_none g.K.Keeper.disk c.take_next.new.hub c.take_next.new.left c.in_ok-take_next.field-0 c.if-not-branch.true c.in_ok-take_next.ensures.step).2
