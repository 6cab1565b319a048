use Rattle.std.proofs.Common.{arith}
use Rattle.grid_types.specs.declared.entry.Change.TheVariants as change
use Rattle.grid_journal.specs.Pieces.{of}
use Rattle.grid_journal.proofs.PieceLemmas.{told}
use Rattle.grid_journal.proofs.piece.Piece.timed_out.Goals as goal

pub returns : goal.returns
returns c = told (of c.args.caller (change.TimedOut c.args.request c.args.at)) (c.args.at.0) _ _ _ (λ in_time. (omega arith, (omega arith, in_time))) (λ fits. fits.1.1) c.add.ensures
