use Rattle.std.proofs.Common.{arith, ℕ, List, take, subst}
use Rattle.std.specs.Io.KnownBytes.{Appends}
use Rattle.journal_keeper.proofs.FileLemmas.{taken_more}
use Rattle.journal_keeper.proofs.file.FileKeeper.write_piece.Goals as goal

pub loop-preserved : goal.loop-preserved
loop-preserved g c = record {
  same_faults = c.loop.invariant.same_faults;
  within = omega (arith, c.in-Ok.ensures.bound, c.split_at.ensures.back_len);
  taken = taken_more (g.F.Write.contents c.args.self.now.file) (g.F.Write.contents c.loop.self.file) (g.F.Write.contents c.write.new.self) c.args.piece.now c.loop.at c.in-Ok.count c.loop.invariant.taken
      (subst (λ (l : List ℕ). Appends (g.F.Write.contents c.loop.self.file) (g.F.Write.contents c.write.new.self) (take c.in-Ok.count l)) c.split_at.ensures.back c.in-Ok.ensures.bytes);
}
