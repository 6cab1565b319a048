-- Nodes that are put into teams by the teams' names.
use Rattle.std.specs.Prelude.{ℕ, List, [], ◌∷◌, ◌++◌, bytes_eq, if◌then◌else◌}
use Rattle.play_words.specs.declared.play.PlayNode.{PlayNode}
use Rattle.team_words.specs.declared.team_play.TeamPlay.{TeamPlay}

-- a node, and the name of its team
pub record TeamNode : Type 0 where
  pub team : List ℕ
  pub node : PlayNode

-- a team of one node
abbrev pub team_of : List ℕ → PlayNode → TeamPlay
team_of name node = record { name = name; nodes = node ∷ [] }

-- one more node in the team
abbrev pub with_node : TeamPlay → PlayNode → TeamPlay
with_node t node = record { name = t.name; nodes = t.nodes ++ node ∷ [] }

-- the node stands last in the team of that name, which is the last of all where there was none
abbrev pub put_in : List TeamPlay → List ℕ → PlayNode → List TeamPlay
put_in [] name node = team_of name node ∷ []
put_in (t ∷ teams) name node = if bytes_eq t.name name then with_node t node ∷ teams else t ∷ put_in teams name node

-- one node behind the other
abbrev pub all_put : List TeamPlay → List TeamNode → List TeamPlay
all_put teams [] = teams
all_put teams (n ∷ nodes) = all_put (put_in teams n.team n.node) nodes
