use Rattle.std.proofs.Common.{◌≡◌, ◌≤◌}
use Rattle.std.specs.Prelude.{true}
use Rattle.grid_outside.specs.Counts.{Rose}
use Rattle.grid_outside.specs.Told.{Gains}
use Rattle.journal_verdicts.specs.Feeds.{waiting}
use Rattle.journal_verdicts.specs.Checks.{left_of}
use Rattle.journal_verdicts.proofs.checking.open.Given as goal

abbrev pub invariant-pieces : goal.invariant-pieces
invariant-pieces g l = record {
  gains : Gains (g.S.Source.view l.fn.input).given (g.S.Source.view l.input).given (waiting l.feed);
  taken : l.feed.taken ≡ 0;
  end : l.feed.ended ≡ true → Rose (g.S.Source.view l.fn.input).ends (g.S.Source.view l.input).ends;
  ends : (g.S.Source.view l.fn.input).ends ≤ (g.S.Source.view l.input).ends;
  faults : (g.S.Source.view l.fn.input).faults ≤ (g.S.Source.view l.input).faults;
}

abbrev pub decreases-pieces : goal.decreases-pieces
decreases-pieces g l = left_of l.feed
