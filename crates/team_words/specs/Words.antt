-- What the words of teams say.
use Rattle.std.specs.Prelude.{◌≡◌, ℕ, ◌≤◌, Bool, true, ◌&&◌, nat_le, List, [], ◌∷◌, length, codes}
use Rattle.std.specs.List.{list_all}
use Rattle.std.specs.Char.{is_ascii_lowercase}
use Rattle.play_words.specs.Words.{SaysNode}
use Rattle.team_words.specs.declared.team_play.TeamPlay.{TeamPlay}
use Rattle.team_words.specs.Teams.{TeamNode, all_put}

abbrev pub is_small_letter : ℕ → Bool
is_small_letter b = is_ascii_lowercase b

-- 1 to 16 small letters
abbrev pub is_team_name : List ℕ → Bool
is_team_name name = nat_le 1 (length name) && nat_le (length name) 16 && list_all is_small_letter name

-- three words say a node of a team: the team's name, the node's description, and its slots
pub record SaysTeamNode (team word slots : List ℕ) (n : TeamNode) : Type 0 where
  pub is_name : is_team_name team ≡ true
  pub named : n.team ≡ team
  pub node_is : SaysNode word slots n.node

-- and so on
abbrev pub SaysTeamNodes : List (List ℕ) → List TeamNode → Type 0
SaysTeamNodes [] [] = Unit {0}
SaysTeamNodes [] (n ∷ nodes) = ⊥
SaysTeamNodes (team ∷ []) nodes = ⊥
SaysTeamNodes (team ∷ word ∷ []) nodes = ⊥
SaysTeamNodes (team ∷ word ∷ slots ∷ words) [] = ⊥
SaysTeamNodes (team ∷ word ∷ slots ∷ words) (n ∷ nodes) =
    SaysTeamNode team word slots n × SaysTeamNodes words nodes

-- the teams of 1 to 16 nodes
pub record SaysCrews (words : List (List ℕ)) (teams : List TeamPlay) : Type 0 where
  pub nodes : List TeamNode
  pub nodes_are : SaysTeamNodes words nodes
  pub some : 1 ≤ length nodes
  pub few : length nodes ≤ 16
  pub teams_are : teams ≡ all_put [] nodes

-- `teams`, and the nodes
pub record SaysTeams (words : List (List ℕ)) (teams : List TeamPlay) : Type 0 where
  pub node_words : List (List ℕ)
  pub words_are : words ≡ codes "teams" ∷ node_words
  pub crews : SaysCrews node_words teams

-- some words say one list at most
abbrev pub OneList : Type 0
OneList =
    (words : List (List ℕ)) (teams others : List TeamPlay) →
    SaysTeams words teams → SaysTeams words others → teams ≡ others
