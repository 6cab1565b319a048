use Rattle.std.proofs.Common.{◌∙◌, refl, ap, subst, length, inl, inr}
use Rattle.grid_types.specs.Calls.{Call}
use Rattle.hub_core.specs.Replies.{binding_reply}
use Rattle.grid_journal.specs.declared.rows.Row.TheVariants as row
use Rattle.grid_journal.specs.RowSpelled.{row_bytes, RowFits}
use Rattle.grid_keeper.proofs.KeepLemmas.{served, failed, as_made}
use Rattle.grid_keeper.proofs.kept_hub.KeptHub.bind.Goals as goal

pub returns-in_err-finish-clause-kept : goal.returns-in_err-finish-clause-kept
returns-in_err-finish-clause-kept g c =
    as_made g.K.Keeper.disk c.args.self.now c.finish.new.self (Call.bind c.args.reservation c.args.session c.args.caps) c.args.at.0 binding_reply c.from_residual.result (failed g.K.Keeper.disk c.args.self.now _ c.finish.new.self (Call.bind c.args.reservation c.args.session c.args.caps) (row.Bind c.args.reservation.request c.args.session c.args.caps c.args.at) c.as_bytes.result.now (binding_reply c.bind-answer.result) (length c.journal-before.result.now) c.finish.result
    c.in_err-finish.field-0.0 binding_reply c.from_residual.result (record {
      open_old = c.requires.open;
      is = c.as_bytes.ensures ∙ (c.in-Ok.ensures.bytes ∙ ap (λ q. row_bytes (row.Bind q c.args.session c.args.caps c.args.at)) c.request.ensures);
      fits = subst (λ q. RowFits (row.Bind q c.args.session c.args.caps c.args.at)) c.request.ensures c.in-Ok.ensures.fits;
      named = (c.args.reservation.slot, ap (λ t. Call.bind t c.args.session c.args.caps) c.requires.may.is_true);
      may = c.requires.may;
      serves = c.bind-answer.ensures.serves;
      same_keeper = refl;
      same_open = refl;
    })
    (ap length c.journal-before.ensures.journal) c.finish.ensures.kept c.in_err-finish.was c.from_residual.ensures.0)

pub returns-clause-kept : goal.returns-clause-kept
returns-clause-kept g c =
    inl (served g.K.Keeper.disk c.args.self.now _ c.finish.new.self (Call.bind c.args.reservation c.args.session c.args.caps) (row.Bind c.args.reservation.request c.args.session c.args.caps c.args.at) c.as_bytes.result.now (binding_reply c.bind-answer.result) (length c.journal-before.result.now) c.finish.result
    c.in_ok-finish.field-0 (record {
      open_old = c.requires.open;
      is = c.as_bytes.ensures ∙ (c.in-Ok.ensures.bytes ∙ ap (λ q. row_bytes (row.Bind q c.args.session c.args.caps c.args.at)) c.request.ensures);
      fits = subst (λ q. RowFits (row.Bind q c.args.session c.args.caps c.args.at)) c.request.ensures c.in-Ok.ensures.fits;
      named = (c.args.reservation.slot, ap (λ t. Call.bind t c.args.session c.args.caps) c.requires.may.is_true);
      may = c.requires.may;
      serves = c.bind-answer.ensures.serves;
      same_keeper = refl;
      same_open = refl;
    })
    (ap length c.journal-before.ensures.journal) c.finish.ensures.kept c.in_ok-finish.was)

pub returns-in_default-clause-kept : goal.returns-in_default-clause-kept
returns-in_default-clause-kept g c = inr (record { silent = refl; stays_open = c.requires.open; same = refl })
