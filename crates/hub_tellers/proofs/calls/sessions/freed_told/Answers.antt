use Rattle.hub_tellers.specs.Tells.{Nothing}
use Rattle.std.proofs.Common.{sym}
use Rattle.hub_tellers.proofs.CallLemmas.{tells_call}
use Rattle.hub_tellers.proofs.calls.sessions.freed_told.Goals as goal

pub returns-clause-told : goal.returns-clause-told
returns-clause-told c = tells_call _ _ c.args.caller _ _ _ _ (c.freed.ensures c.args.at.0) c.raised-now.ensures Nothing _ _ _ (λ H s may. tt) (c.told_freed.ensures _ (sym c.slot-slot.ensures))

pub returns-clause-serves : goal.returns-clause-serves
returns-clause-serves c = c.freed.ensures c.args.at.0
