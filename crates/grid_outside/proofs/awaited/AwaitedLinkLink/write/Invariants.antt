use Rattle.std.proofs.Common.{◌≡◌}
use Rattle.grid_outside.proofs.awaited.AwaitedLinkLink.write.Given as goal

-- nothing was written, and nothing counted
abbrev pub invariant-loop : goal.invariant-loop
invariant-loop g l =
    (g.G.L.Line.view l.self.line ≡ g.G.L.Line.view l.fn.self.line)
    × (l.self.read_faults ≡ l.fn.self.read_faults)
    × (l.self.write_faults ≡ l.fn.self.write_faults)
    × (l.self.ends ≡ l.fn.self.ends)
