-- What a block tells as a connection, and how it was served.
use Rattle.std.specs.Prelude.{◌≡◌, ℕ, zero, suc, List, [], ◌∷◌, true, None, Some, take, slice_get, slice_set, length, map, ◌≤◌}
use Rattle.wd_bodies.specs.declared.code.ErrorCode.TheVariants as code
use Rattle.conn_script.specs.Responses.{bytes_of, failure}
use Rattle.grid_types.specs.Config.{default_config}
use Rattle.grid_teams.specs.Places.{names_by, place_of}
use Rattle.grid_teams.specs.declared.telling.TheConstants.{NO_SUCH_TEAM}
use Rattle.grid_outside.specs.Told.{LinkView}
use Rattle.grid_outside.specs.Memory.{clock_at}
use Rattle.hub_core.specs.HubView.{past}
use Rattle.loop_node.specs.LinkedNodes.{nodes_reached}
use Rattle.grid_play.specs.Crew.{first_crew}
use Rattle.grid_play.specs.Talks.{AscendFrom, Standing, standing}
use Rattle.grid_teams_top.specs.declared.block.BlockLink.{BlockLink}
use Rattle.grid_teams_top.specs.declared.playing.PlayingTeam.{PlayingTeam}
use Rattle.grid_teams_top.specs.declared.playing.TheConstants.{MOST_BLOCK_BYTES}
use Rattle.team_words.specs.declared.team_play.TeamPlay.{TeamPlay}
use Rattle.grid_teams_top.specs.Apart.{ServesAll, ServesOne}
use Rattle.grid_teams_top.specs.Play.{Block, IsWhose, Serves, TeamServes, Unserved, names_of, nowhere}

-- the bytes given so far, those taken, and the counts
abbrev pub block_view : BlockLink → LinkView
block_view l = record {
  given = Some (take l.at l.bytes.now);
  taken = Some l.taken.items;
  read_faults = 0;
  write_faults = l.write_faults;
  ends = l.ends;
}

abbrev pub first_view : LinkView
first_view = record { given = Some []; taken = Some []; read_faults = 0; write_faults = 0; ends = 0 }

-- ---- teams as they play

-- where a team stands: its hub's history, its nodes, and its clock's moment
abbrev pub standing_of : PlayingTeam → Standing
standing_of t = standing (past t.hub) (nodes_reached t.nodes) (clock_at t.clock)

abbrev pub standings : List PlayingTeam → ℕ → Standing
standings [] place = nowhere
standings (t ∷ teams) zero = standing_of t
standings (t ∷ teams) (suc place) = standings teams place

-- a team plays what was said of it
pub record PlaysFor (said : TeamPlay) (t : PlayingTeam) : Type 0 where
  pub name_is : t.name ≡ said.name
  pub config_is : t.hub.config ≡ default_config
  pub numbers_are : t.numbers.items ≡ (first_crew default_config said.nodes).numbers
  pub numbered : AscendFrom 1 (nodes_reached t.nodes)

-- so does each
abbrev pub AllPlay : List TeamPlay → List PlayingTeam → Type 0
AllPlay [] [] = Unit {0}
AllPlay [] (t ∷ teams) = ⊥
AllPlay (said ∷ others) [] = ⊥
AllPlay (said ∷ others) (t ∷ teams) = PlaysFor said t × AllPlay others teams

-- the team at a place served the block
pub record ServedAt (teams : List PlayingTeam) (place : ℕ) (bytes out : List ℕ) (others : List PlayingTeam) : Type 0 where
  pub old : PlayingTeam
  pub new : PlayingTeam
  pub stood : slice_get teams place ≡ Some old
  pub become : others ≡ slice_set teams place new
  pub served : (said : TeamPlay) → PlaysFor said old → TeamServes said (standing_of old) bytes out (standing_of new) × PlaysFor said new

-- the first team of that name served it; or there is none, and that was answered
pub data ServedByName (teams : List PlayingTeam) (name bytes out : List ℕ) (others : List PlayingTeam) : Type 0 where
  by_team : (place : ℕ) → place_of name (names_by (λ (t : PlayingTeam). t.name) teams) ≡ Some place → ServedAt teams place bytes out others →
      ServedByName teams name bytes out others
  by_none : place_of name (names_by (λ (t : PlayingTeam). t.name) teams) ≡ None →
      out ≡ bytes_of (failure code.InvalidArgument NO_SUCH_TEAM.now) true → others ≡ teams → ServedByName teams name bytes out others

-- ---- a block

-- The block is served by the team that it names, from where that team stands, and every other team stands as before. Or it names no
-- team that is there, and no team moves.
pub record ServesBlock (said : List TeamPlay) (old : ℕ → Standing) (bytes out : List ℕ) (new : ℕ → Standing) : Type 0 where
  pub block : Block
  pub bytes_are : block.bytes ≡ bytes
  pub whose : IsWhose (names_of said) block
  pub serves : ServesOne (Serves said) (λ (b : Block). b.place) (Unserved (names_of said)) old block.place block out new

-- ---- blocks one behind the other

abbrev pub AllShort : List (List ℕ) → Type 0
AllShort [] = Unit {0}
AllShort (bytes ∷ blocks) = (length bytes ≤ MOST_BLOCK_BYTES) × AllShort blocks

abbrev pub AllWhose : List (List ℕ) → List Block → Type 0
AllWhose names [] = Unit {0}
AllWhose names (block ∷ blocks) = IsWhose names block × AllWhose names blocks

-- Each is served where the blocks before it left the teams.
pub record ServesBlocks (said : List TeamPlay) (old : ℕ → Standing) (bytes outs : List (List ℕ)) (new : ℕ → Standing) : Type 0 where
  pub blocks : List Block
  pub bytes_are : map (λ (b : Block). b.bytes) blocks ≡ bytes
  pub whose : AllWhose (names_of said) blocks
  pub serves : ServesAll (Serves said) (λ (b : Block). b.place) (Unserved (names_of said)) old blocks outs new
