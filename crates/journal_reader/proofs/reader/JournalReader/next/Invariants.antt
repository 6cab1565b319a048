use Rattle.std.proofs.Common.{◌≡◌, ◌≤◌, List}
use Rattle.grid_types.specs.declared.entry.Entry.{Entry}
use Rattle.journal_reader.specs.Feeds.{Grew}
use Rattle.journal_reader.specs.Readings.{Told, told, HasRead, left_of}
use Rattle.journal_reader.proofs.reader.JournalReader.next.Given as goal

abbrev pub invariant-pieces : goal.invariant-pieces
invariant-pieces g l = record {
  goes : (start : Told) (H : List Entry) → HasRead start (told (g.S.Source.view l.fn.input).given (g.S.Source.view l.fn.input).ends) l.fn.self H →
      HasRead start (told (g.S.Source.view l.input).given (g.S.Source.view l.input).ends) l.self H;
  grew : Grew (g.S.Source.view l.fn.input).given (g.S.Source.view l.input).given;
  less : left_of l.self.feed ≤ left_of l.fn.self.feed;
  config : l.self.config ≡ l.fn.self.config;
  faults : (g.S.Source.view l.fn.input).faults ≤ (g.S.Source.view l.input).faults;
}

abbrev pub decreases-pieces : goal.decreases-pieces
decreases-pieces g l = left_of l.self.feed
