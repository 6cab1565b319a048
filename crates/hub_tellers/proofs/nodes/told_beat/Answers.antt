use Rattle.hub_tellers.proofs.NodeLemmas.{beat_told, beat_quiet}
use Rattle.hub_tellers.proofs.nodes.told_beat.Goals as goal

pub returns-in-Beaten : goal.returns-in-Beaten
returns-in-Beaten c = λ name. beat_told c.calls_make.ensures _ _ _ name _ _ _ _ c.in-Beaten.is c.beaten.ensures

pub returns-in-NoNode : goal.returns-in-NoNode
returns-in-NoNode c = λ name. beat_quiet c.calls_make.ensures _ _ _ name _ _ _ c.in-NoNode.is
