use Rattle.std.proofs.Common.{◌<◌, length}
use Rattle.std.specs.List.{AllZip}
use Rattle.hub_workers.specs.SharedClock.{Asked}
use Rattle.hub_serving.specs.Tables.{SitsOn}
use Rattle.hub_serving.proofs.seats.round.Given as goal

-- each connection is the one that stood there, further on, over the clock as it is now
abbrev pub invariant-loop-place : goal.invariant-loop-place
invariant-loop-place g l = record {
  on : AllZip (SitsOn l.hub g.L.Line.view g.N.NodeLine.state g.N.NodeLine.gives g.N.NodeLine.asks g.C.Clock.gives g.C.Clock.view l.clock) l.fn.seats.items l.seats.items;
  asked : Asked g.C.Clock.gives g.C.Clock.view l.fn.clock l.clock;
  room : 0 < length l.buffer;
}
