use Rattle.std.proofs.Common.{◌<◌, length}
use Rattle.hub_server.specs.Crowds.{IsCrowd}
use Rattle.hub_server.proofs.crowd.Crowd.go_on.Given as goal

abbrev pub invariant-loop : goal.invariant-loop
invariant-loop g l = record {
  crowd : IsCrowd l.desk.hub.now g.L.Line.view g.N.NodeLine.state g.N.NodeLine.gives
      g.N.NodeLine.asks g.C.Clock.gives g.C.Clock.view l.self;
  room : 0 < length l.buffer;
}
