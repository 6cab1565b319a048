use Rattle.std.proofs.Common.{◌∙◌, refl, ap, length}
use Rattle.grid_types.specs.Calls.{Call}
use Rattle.hub_core.specs.HubView.{past}
use Rattle.hub_core.specs.Replies.{enqueued_reply}
use Rattle.grid_journal.specs.declared.rows.Row.TheVariants as row
use Rattle.grid_keeper.proofs.KeepLemmas.{served, failed, lacks, may_enqueue}
use Rattle.grid_keeper.proofs.kept_hub.KeptHub.enqueue.Goals as goal

pub returns-in_err-finish-clause-kept : goal.returns-in_err-finish-clause-kept
returns-in_err-finish-clause-kept g c =
    failed g.K.Keeper.disk c.args.self.now _ c.finish.new.self (Call.enqueue c.args.choices) (row.Enqueue c.args.choices c.args.at) c.as_bytes.result.now (enqueued_reply c.enqueue-answer.result) (length c.journal-before.result.now) c.finish.result
    c.in_err-finish.field-0.0 enqueued_reply c.from_residual.result (record {
      open_old = c.requires.open;
      is = c.as_bytes.ensures ∙ c.in-Ok.ensures.bytes;
      fits = c.in-Ok.ensures.fits;
      named = refl;
      may = (may_enqueue (past c.args.self.now.hub) c.args.choices c.in-Ok.ensures.fits.0.0);
      serves = c.enqueue-answer.ensures;
      same_keeper = refl;
      same_open = refl;
    })
    (ap length c.journal-before.ensures.journal) c.finish.ensures.kept c.in_err-finish.was c.from_residual.ensures.0

pub returns-clause-kept : goal.returns-clause-kept
returns-clause-kept g c =
    served g.K.Keeper.disk c.args.self.now _ c.finish.new.self (Call.enqueue c.args.choices) (row.Enqueue c.args.choices c.args.at) c.as_bytes.result.now (enqueued_reply c.enqueue-answer.result) (length c.journal-before.result.now) c.finish.result
    c.in_ok-finish.field-0 (record {
      open_old = c.requires.open;
      is = c.as_bytes.ensures ∙ c.in-Ok.ensures.bytes;
      fits = c.in-Ok.ensures.fits;
      named = refl;
      may = (may_enqueue (past c.args.self.now.hub) c.args.choices c.in-Ok.ensures.fits.0.0);
      serves = c.enqueue-answer.ensures;
      same_keeper = refl;
      same_open = refl;
    })
    (ap length c.journal-before.ensures.journal) c.finish.ensures.kept c.in_ok-finish.was

pub returns-in_default-clause-kept : goal.returns-in_default-clause-kept
returns-in_default-clause-kept g c = lacks g.K.Keeper.disk c.args.self.now (Call.enqueue c.args.choices) c.args.at.0 c.requires.open c.journal-before.ensures.legal c.journal-before.ensures.safe refl
