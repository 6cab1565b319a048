use Rattle.std.proofs.Common.{◌≡◌, ◌≤◌, length, take}
use Rattle.std.specs.Io.KnownBytes.{Appends}
use Rattle.journal_keeper.proofs.file.FileKeeper.write_piece.Given as goal

abbrev pub invariant-loop : goal.invariant-loop
invariant-loop g l = record {
  same_faults : l.self.faults ≡ l.fn.self.faults;
  within : l.at ≤ length l.piece;
  taken : Appends (g.F.Write.contents l.fn.self.file) (g.F.Write.contents l.self.file) (take l.at l.piece);
}
