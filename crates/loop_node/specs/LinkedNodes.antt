-- What loop nodes behind a link tell.
use Rattle.std.specs.Prelude.{List}
use Rattle.loop_node.specs.declared.links.LoopNodes.{LoopNodes}
use Rattle.loop_node.specs.Sessions.{Node}

-- the nodes that are reached
abbrev pub nodes_reached : LoopNodes → List Node
nodes_reached l = l.nodes.items
