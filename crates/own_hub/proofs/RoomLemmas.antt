-- Room that was made or not, by the answer to the call.
use Rattle.std.proofs.Common.{◌≡◌, true}
use Rattle.std.specs.Prelude.{Result, Ok, Err, OnOk, OnErr, is_ok}
use Rattle.grid_types.specs.declared.text.NoMemory.{NoMemory}
use Rattle.hub_core.specs.HubView.{HubView}
use Rattle.own_hub.specs.Own.{HasRoom}

pub has : (result : Result (Unit {0}) NoMemory) (old new : HubView) → OnOk result (new ≡ record old { room = true }) → OnErr result (new ≡ old) → HasRoom (is_ok result) old new
has (Ok a) old new made same = made
has (Err e) old new made same = same
