use Rattle.std.proofs.Common.{arith, ℕ, List, take, subst, ◌∙◌}
use Rattle.journal_keeper.specs.Keeps.{Adds}
use Rattle.journal_keeper.proofs.HoldsLemmas.{taken_more}
use Rattle.journal_keeper.proofs.whole.keep_all.Goals as goal

pub loop-preserved : goal.loop-preserved
loop-preserved g c = record {
  within = let most = c.in-Err.ensures.part.1 in omega (arith, most, c.split_at.ensures.back_len);
  taken = c.tell.ensures ∙ taken_more (g.K.Keeper.kept c.args.keeper.now) (g.K.Keeper.kept c.loop.keeper) (g.K.Keeper.kept c.append.new.self) c.args.piece.now c.loop.at c.in-Err.short.taken c.loop.invariant.taken
      (subst (λ (l : List ℕ). Adds (g.K.Keeper.kept c.loop.keeper) (g.K.Keeper.kept c.append.new.self) (take c.in-Err.short.taken l)) c.split_at.ensures.back c.in-Err.ensures.part.0);
}
