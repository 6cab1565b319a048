-- Blocks one behind the other.
use Rattle.std.proofs.Common.{◌≡◌, ℕ, zero, suc, ◌+◌, ◌<◌, ◌≤◌, ◌++◌, List, [], ◌∷◌, get_or, length, drop, refl, sym, ap, ap₂, ◌∙◌, subst, arith, append_assoc}
use Rattle.grid_play.specs.Talks.{Standing}
use Rattle.grid_teams_top.specs.declared.playing.TheConstants.{MOST_BLOCK_BYTES}
use Rattle.team_words.specs.declared.team_play.TeamPlay.{TeamPlay}
use Rattle.grid_teams_top.specs.Blocks.{AllShort, ServesBlock, ServesBlocks}

one_on : (at : ℕ) → suc (at + 1) ≡ suc at + 1
one_on at = omega arith

next_one : (blocks : List (List ℕ)) (at : ℕ) (d : List ℕ) → at < length blocks → drop at blocks ≡ get_or blocks at d ∷ drop (at + 1) blocks
next_one [] at d h = absurd (omega arith)
next_one (b ∷ blocks) zero d h = refl
next_one (b ∷ blocks) (suc at) d h =
    next_one blocks at d (omega (arith, h)) ∙ ap (λ (n : ℕ). get_or blocks at d ∷ drop n (b ∷ blocks)) (one_on at)

pub short_at : (blocks : List (List ℕ)) (at : ℕ) (d : List ℕ) → at < length blocks → AllShort blocks → length (get_or blocks at d) ≤ MOST_BLOCK_BYTES
short_at [] at d h all = absurd (omega arith)
short_at (b ∷ blocks) zero d h all = all.0
short_at (b ∷ blocks) (suc at) d h all = short_at blocks at d (omega (arith, h)) all.1

pub none_served : (said : List TeamPlay) (teams : ℕ → Standing) (blocks : List (List ℕ)) (at : ℕ) → at ≡ length blocks → ServesBlocks said teams (drop at blocks) [] teams
none_served said teams blocks at e =
    subst (λ (n : ℕ). ServesBlocks said teams (drop n blocks) [] teams) (sym e)
    (subst (λ (bs : List (List ℕ)). ServesBlocks said teams bs [] teams) (sym (all_dropped blocks)) (record { blocks = []; bytes_are = refl; whose = tt; serves = λ t. refl }))
  where
    all_dropped : (xs : List (List ℕ)) → drop (length xs) xs ≡ []
    all_dropped [] = refl
    all_dropped (x ∷ xs) = all_dropped xs

-- a block is served, and then the rest
pub one_more : (said : List TeamPlay) (old mid last : ℕ → Standing) (blocks : List (List ℕ)) (at : ℕ) (d out : List ℕ) (rest : List (List ℕ)) → at < length blocks →
    ServesBlock said old (get_or blocks at d) out mid → ServesBlocks said mid (drop (at + 1) blocks) rest last → ServesBlocks said old (drop at blocks) (out ∷ rest) last
one_more said old mid last blocks at d out rest h x y =
    subst (λ (bs : List (List ℕ)). ServesBlocks said old bs (out ∷ rest) last) (sym (next_one blocks at d h)) (record {
      blocks = x.block ∷ y.blocks;
      bytes_are = ap₂ (λ (b : List ℕ) (bs : List (List ℕ)). b ∷ bs) x.bytes_are y.bytes_are;
      whose = (x.whose, y.whose);
      serves = (mid, x.serves, y.serves);
    })

pub behind_all : (outs : List (List ℕ)) (out : List ℕ) (rest : List (List ℕ)) → (outs ++ out ∷ []) ++ rest ≡ outs ++ out ∷ rest
behind_all outs out rest = append_assoc outs (out ∷ []) rest
