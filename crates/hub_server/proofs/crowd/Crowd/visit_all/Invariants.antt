use Rattle.std.proofs.Common.{◌<◌, length}
use Rattle.hub_server.specs.Crowds.{IsCrowd}
use Rattle.hub_server.proofs.crowd.Crowd.visit_all.Given as goal

abbrev pub invariant-loop-place : goal.invariant-loop-place
invariant-loop-place g l = record {
  crowd : IsCrowd l.desk.hub.now g.L.Line.view g.N.NodeLine.state g.N.NodeLine.gives
      g.N.NodeLine.asks g.C.Clock.gives g.C.Clock.view l.self;
  room : 0 < length l.buffer;
}
