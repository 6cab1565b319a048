-- A connection that was served from standing still: by a hub in which the nodes of a play have just registered, these nodes, and a
-- clock at 0.
use Rattle.std.specs.Prelude.{◌≡◌, ℕ, ◌≤◌, true, List, length, Some, Result}
use Rattle.grid_types.specs.declared.config.HubConfig.{HubConfig}
use Rattle.grid_types.specs.declared.entry.Entry.{Entry}
use Rattle.grid_types.specs.Legal.{legal}
use Rattle.grid_types.specs.Safe.{IsSafe}
use Rattle.node_client.specs.Runs.{Exchanges, Still}
use Rattle.node_client.specs.Steps.{Step}
use Rattle.conn_script.specs.declared.wants.ConnFault.{ConnFault}
use Rattle.conn_script.specs.declared.wants.Served.{Served}
use Rattle.conn_script.specs.declared.wants.TheConstants.{LIMIT}
use Rattle.hub_conn.specs.Conversation.{Finished}
use Rattle.local_driver.specs.World.{Answered}
use Rattle.loop_node.specs.Links.{NodesGive}
use Rattle.loop_node.specs.Sessions.{Node}
use Rattle.play_words.specs.declared.play.PlayNode.{PlayNode}
use Rattle.grid_play.specs.Crew.{first_crew}

-- The bytes, the steps and the written bytes are a conversation that ended so. In it one legal and safe history leads on from the
-- registrations, the nodes answer by their rule, and the clock stands still but for pauses.
pub record Played (c : HubConfig) (nodes : List PlayNode) (ended : Result Served ConnFault) (bytes : List ℕ) (steps : List Step) (written : List ℕ) : Type 0 where
  pub finished : Finished (Some (first_crew c nodes).numbers) ended bytes steps written
  pub within : length bytes ≤ LIMIT
  pub history : List Entry
  pub answered : Answered c (first_crew c nodes).history steps history
  pub is_legal : legal c history ≡ true
  pub is_safe : IsSafe history
  pub reached : List Node
  pub asked : Exchanges NodesGive (first_crew c nodes).nodes steps reached
  pub moment : ℕ
  pub still : Still 0 steps moment
