use Rattle.std.proofs.Common.{◌≡◌, ◌+◌, ◌-◌, ◌^◌, ◌≤◌, cond, length}
use Rattle.grid_outside.specs.Counts.{Rose}
use Rattle.journal_verdicts.specs.Feeds.{waiting, Reads}
use Rattle.std.specs.Prelude.{true}
use Rattle.journal_verdicts.proofs.feed.Feed.refill.Given as goal

abbrev pub invariant-pieces : goal.invariant-pieces
invariant-pieces g l = record {
  reads : Reads l.fn.self l.self (g.S.Source.view l.fn.input).given (g.S.Source.view l.input).given;
  end : l.self.ended ≡ true → Rose (g.S.Source.view l.fn.input).ends (g.S.Source.view l.input).ends;
  ends : (g.S.Source.view l.fn.input).ends ≤ (g.S.Source.view l.input).ends;
  faults : (g.S.Source.view l.fn.input).faults ≤ (g.S.Source.view l.input).faults;
}

abbrev pub decreases-pieces : goal.decreases-pieces
decreases-pieces g l = (2 ^ 40 - (l.self.taken + length (waiting l.self))) + cond l.self.ended 0 1
