use Rattle.hub_tellers.proofs.NodeLemmas.{drain_told, drain_quiet}
use Rattle.hub_tellers.proofs.nodes.told_drain.Goals as goal

pub returns-then-was_up : goal.returns-then-was_up
returns-then-was_up c = drain_told c.calls_make.ensures _ _ _ _ _ _ _ _ c.if-was_up.true c.draining.ensures

pub returns-else-was_up : goal.returns-else-was_up
returns-else-was_up c = drain_quiet c.calls_make.ensures _ _ _ _ _ _ _ c.if-was_up.false
