use Rattle.std.proofs.Common.{[], ◌∷◌}
use Rattle.std.specs.Prelude.{cond}
use Rattle.grid_types.specs.declared.entry.Change.TheVariants as change
use Rattle.grid_types.specs.Tables.{entry}
use Rattle.hub_tellers.proofs.TellLemmas.{first_untold}
use Rattle.hub_tellers.proofs.StartLemmas.{told_then}
use Rattle.hub_tellers.proofs.starts.told_bound.Goals as goal

pub returns-in-Ok : goal.returns-in-Ok
returns-in-Ok c = told_then (entry c.args.caller (change.Bound c.args.start.request c.args.start.slot c.args.session c.args.caps.now c.args.now)) c.args.drains
    (entry c.args.caller (change.Draining c.args.start.slot.node c.args.now)) c.args.piece.now _ _ _ _ c.in-Ok.ensures c.told_drained.ensures

pub returns-in-Err : goal.returns-in-Err
returns-in-Err c = first_untold (entry c.args.caller (change.Bound c.args.start.request c.args.start.slot c.args.session c.args.caps.now c.args.now))
    (cond c.args.drains (entry c.args.caller (change.Draining c.args.start.slot.node c.args.now) ∷ []) []) c.args.piece.now _ c.in-Err.fault c.in-Err.ensures
