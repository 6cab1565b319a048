use Rattle.std.proofs.Common.{ℕ, ◌≤◌, List, length, ap, [], ◌∷◌, ◌++◌, ◌∙◌, arith, subst, sym, append-nil}
use Rattle.grid_teams_top.specs.Blocks.{ServesBlock, ServesBlocks, standings}
use Rattle.grid_teams_top.proofs.ManyBlocksLemmas.{behind_all, none_served, one_more, short_at}
use Rattle.grid_teams_top.proofs.blocks.serve_blocks.Goals as goal

pub each-init : goal.each-init
each-init c = record {
  within = omega arith;
  so_far = λ said all. (all, λ rest last x. subst (λ (os : List (List ℕ)). ServesBlocks said (standings c.args.teams.now) c.args.blocks.now (os ++ rest) last) (sym c.new-outs.ensures.items) x);
}

pub serve_block-requires : goal.serve_block-requires
serve_block-requires c =
    subst (λ (b : List ℕ). length b ≤ 16_777_216) (sym (c.as_bytes.ensures ∙ c.index-blocks-at.is))
    (short_at c.args.blocks.now c.each.at c.index-blocks-at.result c.each-test.true c.requires)

pub each-preserved : goal.each-preserved
each-preserved c =
    let blocks = c.args.blocks.now in
    let at = c.each.at in
    let d = c.index-blocks-at.result in
    let out = c.in_ok-out.out in
    let inv = c.each.invariant in
    record {
      within = omega (arith, c.each-test.true);
      so_far = λ said all.
          let before = inv.so_far said all in
          let step = c.in_ok-out.ensures said before.0 in
          let served = subst (λ (b : List ℕ). ServesBlock said (standings c.each.teams) b out (standings c.serve_block.new.teams)) (c.as_bytes.ensures ∙ c.index-blocks-at.is) step.0 in (
            step.1,
            λ rest last x. subst (λ (os : List (List ℕ)). ServesBlocks said (standings c.args.teams.now) blocks os last)
                (sym (behind_all c.each.outs.items out rest) ∙ ap (λ (os : List (List ℕ)). os ++ rest) (sym c.in_ok-add.ensures))
                (before.1 (out ∷ rest) last (one_more said (standings c.each.teams) (standings c.serve_block.new.teams) last blocks at d out rest c.each-test.true served x)),
          );
    }

pub returns : goal.returns
returns c = λ said all.
    let blocks = c.args.blocks.now in
    let now = standings c.each.teams in
    subst (λ (os : List (List ℕ)). ServesBlocks said (standings c.args.teams.now) blocks os now) (append-nil c.each.outs.items)
    ((c.each.invariant.so_far said all).1 [] now (none_served said now blocks c.each.at (omega (arith, c.each.invariant.within, c.each-test.false))))
