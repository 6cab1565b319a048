use Rattle.std.proofs.Common.{sym, ◌∙◌, ap, arith}
use Rattle.std.specs.Prelude.{Err}
use Rattle.grid_types.specs.Tables.{entry}
use Rattle.grid_opening.proofs.GoesLemmas.{append_failed, enters_none, enters_one, not_told, ok_of, told_alone}
use Rattle.grid_opening.proofs.opening.Opening.enter.Goals as goal

pub returns-then-not-permits : goal.returns-then-not-permits
returns-then-not-permits g c =
    (enters_none g.K.Keeper.kept g.L.Listener.heard c.args.self.now c.args.caller c.args.change c.permits.result c.permits.ensures.exact c.if-not-permits.true, omega arith)

pub returns-in-Err-Unreadable : goal.returns-in-Err-Unreadable
returns-in-Err-Unreadable g c =
    not_told c.new-piece.result c.told_change.new.piece (entry c.args.caller c.args.change) c.told_change.result c.told_change.ensures (c.in-Err-Unreadable.is ∙ ap Err c.in-Err-Unreadable.field-0-is)

pub returns-then-is_err-2 : goal.returns-then-is_err-2
returns-then-is_err-2 g c = append_failed _ _ c.append.result c.append.ensures.cause (sym c.is_err-2.ensures.value ∙ c.if-is_err-2.true)

pub returns : goal.returns
returns g c =
    let told = told_alone c.new-piece.result c.told_change.new.piece (entry c.args.caller c.args.change) c.told_change.result c.in-Ok.field-0 c.told_change.ensures c.in-Ok.is c.new-piece.ensures in (
      enters_one g.K.Keeper.kept g.L.Listener.heard c.args.self.now _ c.args.caller c.args.change c.permits.result c.as_bytes.result.now
          c.permits.ensures.exact c.if-not-permits.false (c.as_bytes.ensures ∙ told.0) told.1
          (ok_of c.hear.result (sym c.is_err.ensures.value ∙ c.if-is_err.false) c.hear.ensures)
          (ok_of c.append.result (sym c.is_err-2.ensures.value ∙ c.if-is_err-2.false) c.append.ensures.whole)
          c.max-self.ensures
          (ok_of c.note.result (sym c.is_err-3.ensures.value ∙ c.if-is_err-3.false) c.note.ensures),
      c.append.ensures.cause.later,
    )
