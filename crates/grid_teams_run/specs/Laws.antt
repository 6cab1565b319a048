-- That teams are apart, said of blocks of bytes.
use Rattle.std.specs.Prelude.{◌≡◌, ℕ, List, map}
use Rattle.grid_play.specs.Talks.{Standing}
use Rattle.team_words.specs.declared.team_play.TeamPlay.{TeamPlay}
use Rattle.grid_teams_top.specs.Apart.{blocks_of, outs_of}
use Rattle.grid_teams_top.specs.Blocks.{ServesBlocks}
use Rattle.grid_teams_top.specs.Play.{Block, Serves, Unserved, names_of}

-- the team's blocks among those that were served, and what went out for them
abbrev pub team_blocks : List TeamPlay → ℕ → List Block → List (List ℕ)
team_blocks said t blocks =
    map (λ (b : Block). b.bytes) (blocks_of (Serves said) (λ (b : Block). b.place) (Unserved (names_of said)) t blocks)

abbrev pub team_outs : List TeamPlay → ℕ → List Block → List (List ℕ) → List (List ℕ)
team_outs said t blocks outs = outs_of (Serves said) (λ (b : Block). b.place) (Unserved (names_of said)) t blocks outs

-- What goes out at the places of a team's blocks is what goes out for the list of these blocks alone, and the team comes to stand at
-- the same.
pub record SameForTeam (said : List TeamPlay) (t : ℕ) {first last : ℕ → Standing} {blocks outs : List (List ℕ)}
    (all : ServesBlocks said first blocks outs last) (others : List (List ℕ)) (alone : ℕ → Standing) : Type 0 where
  pub outs_are : others ≡ team_outs said t all.blocks outs
  pub stands : alone t ≡ last t

abbrev pub BlocksAreApart : Type 0
BlocksAreApart =
    (said : List TeamPlay) (t : ℕ) (first last alone : ℕ → Standing) (blocks outs others : List (List ℕ)) →
    (all : ServesBlocks said first blocks outs last) →
    ServesBlocks said first (team_blocks said t all.blocks) others alone →
    SameForTeam said t all others alone
