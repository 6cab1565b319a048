use Rattle.std.proofs.Common.{arith}
use Rattle.grid_types.specs.declared.entry.Change.TheVariants as change
use Rattle.grid_journal.specs.Pieces.{of}
use Rattle.grid_journal.proofs.PieceLemmas.{told}
use Rattle.grid_journal.proofs.piece.Piece.freed.Goals as goal

pub returns : goal.returns
returns c = told (of c.args.caller (change.Freed c.args.slot)) (0) _ _ _ (λ in_time. (omega arith, (omega arith, omega arith))) (λ fits. omega arith) c.add.ensures
