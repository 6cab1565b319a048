use Rattle.std.proofs.Common.{refl}
use Rattle.hub_cell.proofs.hub.requests.EnqueueAsks.ask.Goals as goal

pub returns-then-is_err-clause-serves : goal.returns-then-is_err-clause-serves
returns-then-is_err-clause-serves c =
    (c.lacks_change_nothing.ensures c.args.core.now c.args.caller _ c.args.self.at.0 c.args.piece.now (λ reply. refl)).0
