use Rattle.hub_core.specs.HubView.{past}
use Rattle.grid_keeper.proofs.AlongLemmas.{along_same}
use Rattle.grid_keeper.proofs.SettleLemmas.{idle_less, idle_over, bare_still}
use Rattle.grid_keeper.proofs.settling.take_next.Goals as goal

pub returns-in_default-clause-went : goal.returns-in_default-clause-went
returns-in_default-clause-went g c = along_same g.K.Keeper.disk c.args.hub.now c.requires.open_now

pub returns-in_default-clause-step : goal.returns-in_default-clause-step
returns-in_default-clause-step g c = (
  c.requires.open_now,
  c.requires.none,
  idle_over g.K.Keeper.disk c.args.hub.now c.args.left.now c.pop_ticket.new.self c.requires c.in_default.ensures.pops.0 c.in_default.ensures.pops.1,
)

pub returns-clause-step : goal.returns-clause-step
returns-clause-step g c =
    idle_less g.K.Keeper.disk c.args.hub.now c.take_outcome.new.hub c.args.left.now c.pop_ticket.new.self c.in-Some.ticket c.requires (c.in-Some.ensures.pops (past c.args.hub.now.hub) c.requires.holds)
    (bare_still c.args.left.now c.pop_ticket.new.self c.in-Some.ensures.reservations c.in-Some.ensures.closings c.requires.bare)
    c.in_ok-take_outcome.ensures.open c.in_ok-take_outcome.ensures.none c.in_ok-take_outcome.ensures.stay c.in_ok-take_outcome.ensures.fewer

pub take_outcome-requires-clause-may : goal.take_outcome-requires-clause-may
take_outcome-requires-clause-may g c = let lost = c.in-Some.ensures.pops (past c.args.hub.now.hub) c.requires.holds in record { is_good = lost.good.1; is_true = lost.good.2 }
