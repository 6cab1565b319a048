-- A hub in which the nodes of a play have registered.
use Rattle.std.specs.Prelude.{◌≡◌, ℕ, ◌+◌, ◌≤◌, true, List, [], ◌∷◌, ◌++◌, None, codes, decimal}
use Rattle.grid_types.specs.declared.capabilities.Registration.{Registration}
use Rattle.grid_types.specs.declared.config.HubConfig.{HubConfig}
use Rattle.grid_types.specs.declared.entry.Entry.{Entry}
use Rattle.grid_types.specs.declared.limits.TheConstants.{MOST_SLOTS}
use Rattle.grid_types.specs.Calls.{Call}
use Rattle.grid_types.specs.HubAnswers.{after_call}
use Rattle.hub_core.specs.HubView.{HubView, past}
use Rattle.loop_node.specs.Links.{node_address}
use Rattle.loop_node.specs.Sessions.{Node, new_node, node_caps}
use Rattle.loop_node.specs.Sizes.{short_texts}
use Rattle.play_words.specs.declared.play.PlayNode.{PlayNode}

-- what node i of a play says of itself: one group of slots for its browser, and as many sessions as slots
abbrev pub registration_of : ℕ → PlayNode → Registration
registration_of i node = record {
  name = codes "play-" ++ decimal i;
  address = node_address i;
  max_sessions = node.slots;
  groups = (record { stereotype = node_caps node.browser node.version; count = node.slots }) ∷ [];
  drain_after = None;
}

-- the node in memory that answers at its address
abbrev pub loop_node_of : ℕ → PlayNode → Node
loop_node_of i node = new_node i node.browser node.version node.slots node.refuses

-- a history of a hub, the nodes in memory, and the numbers of the nodes that give a sign of life before each request
pub record Crew : Type 0 where
  pub history : List Entry
  pub nodes : List Node
  pub numbers : List ℕ

abbrev pub gathered : HubView → List Node → List ℕ → Crew
gathered hub nodes numbers = record { history = past hub; nodes = nodes; numbers = numbers }

-- node i registers at the moment 0
abbrev pub joins : HubConfig → Crew → ℕ → PlayNode → Crew
joins c crew i node = record {
  history = after_call c crew.history 0 (Call.register (registration_of i node)) 0;
  nodes = crew.nodes ++ loop_node_of i node ∷ [];
  numbers = crew.numbers ++ i ∷ [];
}

-- and so on with the numbers behind it
abbrev pub crew_from : HubConfig → ℕ → List PlayNode → Crew → Crew
crew_from c i [] crew = crew
crew_from c i (node ∷ nodes) crew = crew_from c (i + 1) nodes (joins c crew i node)

-- all nodes of a play, numbered from 1
abbrev pub first_crew : HubConfig → List PlayNode → Crew
first_crew c nodes = crew_from c 1 nodes (record { history = []; nodes = []; numbers = [] })

-- a node has the slots that a node may have, and its texts leave a reply as small as one that comes over a link
pub record IsFit (node : PlayNode) : Type 0 where
  pub least : 1 ≤ node.slots
  pub most : node.slots ≤ MOST_SLOTS
  pub short : short_texts (loop_node_of 0 node) ≡ true

abbrev pub AllFit : List PlayNode → Type 0
AllFit [] = Unit {0}
AllFit (node ∷ nodes) = IsFit node × AllFit nodes
