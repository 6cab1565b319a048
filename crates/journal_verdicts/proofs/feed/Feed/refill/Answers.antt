use Rattle.std.proofs.Common.{arith}
use Rattle.grid_outside.specs.StreamLaws.{rose_later}
use Rattle.journal_verdicts.proofs.CheckLemmas.{reads_on}
use Rattle.journal_verdicts.proofs.feed.Feed.refill.Goals as goal

pub pieces-preserved : goal.pieces-preserved
pieces-preserved g c = record {
  reads = reads_on c.args.self.now c.pieces.self c.read_piece.new.self _ _ _ c.pieces.invariant.reads c.in_ok-read_piece.ensures.reads;
  end = λ h. rose_later _ _ _ c.pieces.invariant.ends (c.in_ok-read_piece.ensures.end h);
  ends = omega (arith, c.pieces.invariant.ends, c.in_ok-read_piece.ensures.ends);
  faults = omega (arith, c.pieces.invariant.faults, c.in_ok-read_piece.ensures.faults);
}
