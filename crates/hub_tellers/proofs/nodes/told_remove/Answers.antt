use Rattle.hub_tellers.proofs.NodeLemmas.{remove_told, remove_quiet}
use Rattle.hub_tellers.proofs.nodes.told_remove.Goals as goal

pub returns-in-Removed : goal.returns-in-Removed
returns-in-Removed c = remove_told c.calls_make.ensures _ _ _ _ _ _ _ c.in-Removed.is c.removed.ensures

pub returns-in-NoNode : goal.returns-in-NoNode
returns-in-NoNode c = remove_quiet c.calls_make.ensures _ _ _ _ _ _ c.in-NoNode.is
