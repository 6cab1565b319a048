use Rattle.std.proofs.Common.{[], ◌∷◌}
use Rattle.grid_types.specs.declared.entry.Change.TheVariants as change
use Rattle.grid_types.specs.Tables.{entry}
use Rattle.hub_tellers.proofs.TellLemmas.{two_told, first_untold}
use Rattle.hub_tellers.proofs.requests.told_given_up.Goals as goal

pub returns-in-Ok : goal.returns-in-Ok
returns-in-Ok c = two_told (entry c.args.caller (change.Cleared c.args.request c.args.now)) (entry c.args.caller (change.Taken c.args.request c.args.now)) c.args.piece.now _ _ _ _ c.in-Ok.ensures c.taken.ensures

pub returns-in-Err : goal.returns-in-Err
returns-in-Err c = first_untold (entry c.args.caller (change.Cleared c.args.request c.args.now)) (entry c.args.caller (change.Taken c.args.request c.args.now) ∷ []) c.args.piece.now _ c.in-Err.fault c.in-Err.ensures
