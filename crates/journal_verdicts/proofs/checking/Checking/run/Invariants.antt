use Rattle.std.proofs.Common.{◌≤◌}
use Rattle.journal_verdicts.specs.Checks.{Told, told, HasRead, left_of}
use Rattle.journal_verdicts.proofs.checking.Checking.run.Given as goal

abbrev pub invariant-entries : goal.invariant-entries
invariant-entries g l = record {
  goes : (start : Told) → HasRead g.L.Listener.heard start (told (g.S.Source.view l.fn.input).given (g.S.Source.view l.fn.input).ends) l.fn.self → HasRead g.L.Listener.heard start (told (g.S.Source.view l.input).given (g.S.Source.view l.input).ends) l.self;
  ends : (g.S.Source.view l.fn.input).ends ≤ (g.S.Source.view l.input).ends;
  faults : (g.S.Source.view l.fn.input).faults ≤ (g.S.Source.view l.input).faults;
}

abbrev pub decreases-entries : goal.decreases-entries
decreases-entries g l = left_of l.self.feed
