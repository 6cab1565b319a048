use Rattle.std.proofs.Common.{sym, subst, Bool}
use Rattle.own_hub.specs.Own.{Roomed}
use Rattle.grid_keeper.specs.Runs.{kept_own}
use Rattle.grid_keeper.proofs.OwnLemmas.{roomed}
use Rattle.grid_keeper.proofs.own.KeptHubOwnHub.has_room.Goals as goal

pub returns : goal.returns
returns g c =
    subst (λ (b : Bool). Roomed (kept_own g.K.Keeper.disk g.K.Keeper.faults) b c.args.self.now c.room.new.self) (sym c.is_ok.ensures.value)
    (roomed g.K.Keeper.disk g.K.Keeper.faults c.args.self.now c.room.new.self c.room.result c.requires c.room.ensures.open c.room.ensures.ok c.room.ensures.err c.room.ensures.keeper)
