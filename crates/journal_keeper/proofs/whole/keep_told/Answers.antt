use Rattle.std.proofs.Common.{ap, ◌∙◌}
use Rattle.std.specs.Prelude.{is_some}
use Rattle.journal_keeper.proofs.HoldsLemmas.{tells_still}
use Rattle.journal_keeper.proofs.whole.keep_told.Goals as goal

pub returns-in-Ok-clause-tells : goal.returns-in-Ok-clause-tells
returns-in-Ok-clause-tells g c = ap is_some c.tell.ensures ∙ tells_still (g.K.Keeper.kept c.args.keeper.now) (g.K.Keeper.kept c.keep_all.new.keeper) c.args.piece.now c.keep_all.ensures
