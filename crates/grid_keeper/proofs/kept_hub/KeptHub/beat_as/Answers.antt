use Rattle.std.proofs.Common.{◌∙◌, refl, ap, length, Some}
use Rattle.grid_types.specs.Calls.{Call}
use Rattle.hub_core.specs.HubView.{past}
use Rattle.hub_core.specs.Replies.{beating_reply}
use Rattle.grid_journal.specs.declared.rows.Row.TheVariants as row
use Rattle.grid_keeper.proofs.KeepLemmas.{served_as, failed_as, beat_goes}
use Rattle.grid_keeper.proofs.kept_hub.KeptHub.beat_as.Goals as goal

pub returns-in_err-finish-clause-kept : goal.returns-in_err-finish-clause-kept
returns-in_err-finish-clause-kept g c =
    failed_as g.K.Keeper.disk c.args.self.now _ c.finish.new.self (Call.beat c.args.node (Some c.args.name.now)) (row.Beat c.args.node c.args.at) c.as_bytes.result.now (beating_reply c.beat_as-answer.result) (length c.journal-before.result.now) c.finish.result
    c.in_err-finish.field-0.0 beating_reply c.from_residual.result (record {
      open_old = c.requires.open;
      is = c.as_bytes.ensures ∙ c.in-Ok.ensures.bytes;
      goes = beat_goes c.args.self.now.hub.config (past c.args.self.now.hub) _ c.args.node c.args.name.now c.args.at _ c.beat_as-answer.ensures.serves.answers c.beat_row.ensures.fits;
      serves = c.beat_as-answer.ensures;
      same_keeper = refl;
      same_open = refl;
    })
    (ap length c.journal-before.ensures.journal) c.finish.ensures.kept c.in_err-finish.was c.from_residual.ensures.0

pub returns-clause-kept : goal.returns-clause-kept
returns-clause-kept g c =
    served_as g.K.Keeper.disk c.args.self.now _ c.finish.new.self (Call.beat c.args.node (Some c.args.name.now)) (row.Beat c.args.node c.args.at) c.as_bytes.result.now (beating_reply c.beat_as-answer.result) (length c.journal-before.result.now) c.finish.result
    c.in_ok-finish.field-0 (record {
      open_old = c.requires.open;
      is = c.as_bytes.ensures ∙ c.in-Ok.ensures.bytes;
      goes = beat_goes c.args.self.now.hub.config (past c.args.self.now.hub) _ c.args.node c.args.name.now c.args.at _ c.beat_as-answer.ensures.serves.answers c.beat_row.ensures.fits;
      serves = c.beat_as-answer.ensures;
      same_keeper = refl;
      same_open = refl;
    })
    (ap length c.journal-before.ensures.journal) c.finish.ensures.kept c.in_ok-finish.was
