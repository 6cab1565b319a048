use Rattle.grid_opening.proofs.GoesLemmas.{not_later, reason_of, reasons, settled_so}
use Rattle.grid_opening.proofs.opening.Opening.settle.Goals as goal

pub returns-in-Ok : goal.returns-in-Ok
returns-in-Ok g c =
    let raised = c.raised-at.result.0 in
    record {
      settles = settled_so g.K.Keeper.kept g.L.Listener.heard g.K.Keeper.faults raised c.args.self c.settle_at.new.self c.finish.result c.in-Ok.field-0 (not_later c.args.self.ledger c.args.at.0 raised c.raised-at.ensures) c.in-Ok.ensures c.finish.ensures.hands;
      reason = reasons g.K.Keeper.kept g.L.Listener.heard g.K.Keeper.faults c.args.at.0 raised c.args.self c.settle_at.new.self c.finish.result c.in-Ok.field-0 c.in-Ok.ensures c.finish.ensures.numbers;
    }

pub returns-in-Err : goal.returns-in-Err
returns-in-Err g c = record {
  settles = tt;
  reason = reason_of g.K.Keeper.kept g.L.Listener.heard g.K.Keeper.faults c.args.at.0 c.raised-at.result.0 c.args.self c.settle_at.new.self c.in-Err.fault c.raised-at.ensures c.in-Err.ensures;
}
