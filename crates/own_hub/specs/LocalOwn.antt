-- What is told of the hub of one thread itself: it has no faults, and nothing is told besides.
use Rattle.hub_core.specs.HubView.{HubView}
use Rattle.own_hub.specs.Own.{Own}
use Rattle.own_hub.specs.declared.own.NoFault.{NoFault}

abbrev pub local_own : Own HubView NoFault
local_own = record {
  shown = λ hub. hub;
  IsOpen = λ hub. Unit {0};
  Along = λ first hub. Unit {0};
  Stopped = λ first fault hub. ⊥;
}
