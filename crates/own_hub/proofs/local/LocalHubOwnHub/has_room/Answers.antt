use Rattle.std.proofs.Common.{sym, subst, Bool}
use Rattle.own_hub.specs.Own.{HasRoom}
use Rattle.own_hub.proofs.RoomLemmas.{has}
use Rattle.own_hub.proofs.local.LocalHubOwnHub.has_room.Goals as goal

pub returns : goal.returns
returns c = record {
  room = subst (λ (b : Bool). HasRoom b c.args.self.now c.room.new.self) (sym c.is_ok.ensures.value)
      (has c.room.result c.args.self.now c.room.new.self c.room.ensures.ok c.room.ensures.err);
  goes = record { is_open = tt; along = λ first told. tt };
}
