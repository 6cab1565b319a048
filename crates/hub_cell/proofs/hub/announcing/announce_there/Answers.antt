use Rattle.std.proofs.Common.{sym, ap, subst, ◌∙◌, append-nil, [], ◌++◌}
use Rattle.std.specs.Prelude.{is_some}
use Rattle.journal_keeper.specs.Keeps.{Holds}
use Rattle.journal_keeper.specs.Keepings.{kept_by}
use Rattle.hub_cell.specs.Published.{JournalStands}
use Rattle.hub_cell.proofs.KeptLemmas.{lent-journal, kept-stands, kept-none, kept-made, lent-tells, marked}
use Rattle.grid_types.specs.History.{history_of}
use Rattle.hub_core.specs.CoreStands.{Stands}
use Rattle.hub_core.specs.declared.hub.HubCore.{HubCore}
use Rattle.turn_cell.specs.Cells.{view_of, origin_of}
use Rattle.hub_cell.specs.Shared.{past}
use Rattle.hub_cell.proofs.TurnLemmas.{own-made}
use Rattle.hub_cell.proofs.ShownLemmas.{lent-grid, lent-config, lent-serves, map-on, none-made_shown, on-ok, on-err, announced-shown, announced-stands, announced-config, announced-answered, announced-there, told-after}
use Rattle.hub_cell.proofs.hub.announcing.announce_there.Goals as goal

pub leave-requires-clause-value : goal.leave-requires-clause-value
leave-requires-clause-value g c =
    let k = origin_of c.args.cell.now in
    let v = view_of c.args.pass.now in
    let q = c.args.question in
    let s = lent-grid c.value-grid.result.now c.args.turn.value (past v) c.value-grid.ensures.value c.requires.stands.0 in
    let e = lent-config c.value-grid.result.now c.args.turn.value k.core.value.config c.value-grid.ensures.value c.requires.stands.1 in
    let t = lent-tells c.value-grid.result.now c.args.turn.value _ c.value-grid.ensures.value c.requires.tells in
    let j = lent-journal c.value-grid.result.now c.args.turn.value k.core.value.config v.seen c.value-grid.ensures.value c.requires.stands.1 c.requires.journal in
    let none = on-err c.prepare.result (sym c.is_err.ensures.value ∙ c.if-is_err.true) c.prepare.ensures.none in (
      (
        record {
          core_stands = subst (λ L. Stands c.prepare.new.grid.core.value (history_of L)) (sym (append-nil v.seen)) (c.prepare.ensures.keeps.still (past v) s.core_stands);
          map_stands = map-on c.value-grid.result.now.map c.tell.new.self (past v) _ s.map_stands (c.tell.ensures.same.0 ∙ c.prepare.ensures.shown) (c.tell.ensures.same.1 ∙ (none ∙ sym s.map_stands.none_pending)) (none-made_shown v.seen);
        },
        kept-stands c.prepare.new.grid.core.value k.core.value.config (v.seen ++ []) (kept_by c.prepare.new.grid.keeping) c.prepare.new.grid.piece (c.prepare.ensures.keeps.same_config ∙ e)
            (subst (λ z. Holds k.core.value.config (v.seen ++ []) (kept_by z)) (sym c.prepare.ensures.journal.0) (kept-none k.core.value.config v.seen (kept_by c.value-grid.result.now.keeping) j.holds))
            (c.prepare.ensures.journal.1 ∙ j.none_waits),
      ),
      marked (c.prepare.ensures.keeps.same_config ∙ e) (ap (λ z. is_some (kept_by z)) c.prepare.ensures.journal.0 ∙ t),
    )

pub leave-requires-2-clause-value : goal.leave-requires-2-clause-value
leave-requires-2-clause-value g c =
    let k = origin_of c.args.cell.now in
    let v = view_of c.args.pass.now in
    let q = c.args.question in
    let s = lent-grid c.value-grid.result.now c.args.turn.value (past v) c.value-grid.ensures.value c.requires.stands.0 in
    let e = lent-config c.value-grid.result.now c.args.turn.value k.core.value.config c.value-grid.ensures.value c.requires.stands.1 in
    let t = lent-tells c.value-grid.result.now c.args.turn.value _ c.value-grid.ensures.value c.requires.tells in
    let j = lent-journal c.value-grid.result.now c.args.turn.value k.core.value.config v.seen c.value-grid.ensures.value c.requires.stands.1 c.requires.journal in
    let fine = sym c.is_err.ensures.value ∙ c.if-is_err.false in
    let items = on-ok c.prepare.result fine c.prepare.ensures.items in
    let ready = on-ok c.prepare.result fine c.prepare.ensures.ready in
    let same = announced-config k.core.value.config c.value-grid.result.now c.prepare.new.grid c.answer-answered.new.core v c.number-caller.result (g.Q.Announces.call q) (g.Q.Announces.at q) (g.Q.Announces.reply c.answer-answered.result.0) (g.Q.Announces.ready q c.prepare.new.grid.core.value) s e
    c.number-caller.ensures c.requires.may c.prepare.ensures.keeps c.prepare.ensures.shown items ready (lent-serves c.deref_mut.result.now c.prepare.new.grid.core.value c.answer-answered.new.core c.number-caller.result (g.Q.Announces.call q) (g.Q.Announces.at q) (g.Q.Announces.reply c.answer-answered.result.0) c.deref_mut.ensures.value c.answer-answered.ensures.serves) (λ ready. c.answer-answered.ensures.there (subst (λ (z : HubCore). g.Q.Announces.ready q z) (sym c.deref_mut.ensures.value) ready)) g.E.Made.entries c.requires.made in
    let answered = announced-answered k.core.value.config c.value-grid.result.now c.prepare.new.grid c.answer-answered.new.core v c.number-caller.result (g.Q.Announces.call q) (g.Q.Announces.at q) (g.Q.Announces.reply c.answer-answered.result.0) (g.Q.Announces.ready q c.prepare.new.grid.core.value) s e
    c.number-caller.ensures c.requires.may c.prepare.ensures.keeps c.prepare.ensures.shown items ready (lent-serves c.deref_mut.result.now c.prepare.new.grid.core.value c.answer-answered.new.core c.number-caller.result (g.Q.Announces.call q) (g.Q.Announces.at q) (g.Q.Announces.reply c.answer-answered.result.0) c.deref_mut.ensures.value c.answer-answered.ensures.serves) (λ ready. c.answer-answered.ensures.there (subst (λ (z : HubCore). g.Q.Announces.ready q z) (sym c.deref_mut.ensures.value) ready)) g.E.Made.entries c.requires.made in
    let waits = subst (λ z. JournalStands k.core.value.config v.seen (kept_by c.prepare.new.grid.keeping) z) (sym c.prepare.ensures.journal.1)
    (subst (λ z. JournalStands k.core.value.config v.seen (kept_by z) c.value-grid.result.now.piece) (sym c.prepare.ensures.journal.0) j) in (
      (
        announced-stands k.core.value.config c.value-grid.result.now c.prepare.new.grid c.answer-answered.new.core v c.number-caller.result (g.Q.Announces.call q) (g.Q.Announces.at q) (g.Q.Announces.reply c.answer-answered.result.0) (g.Q.Announces.ready q c.prepare.new.grid.core.value) s e
            c.number-caller.ensures c.requires.may c.prepare.ensures.keeps c.prepare.ensures.shown items ready (lent-serves c.deref_mut.result.now c.prepare.new.grid.core.value c.answer-answered.new.core c.number-caller.result (g.Q.Announces.call q) (g.Q.Announces.at q) (g.Q.Announces.reply c.answer-answered.result.0) c.deref_mut.ensures.value c.answer-answered.ensures.serves) (λ ready. c.answer-answered.ensures.there (subst (λ (z : HubCore). g.Q.Announces.ready q z) (sym c.deref_mut.ensures.value) ready)) g.E.Made.entries c.requires.made c.publish.new.self c.tell-2.new.self c.publish.ensures.published c.publish.ensures.pending c.tell-2.ensures.same.0 c.tell-2.ensures.same.1,
        kept-stands c.answer-answered.new.core k.core.value.config (v.seen ++ g.E.Made.entries) (kept_by c.keep_told.new.keeper) c.let_entries_go.new.piece same
            (kept-made k.core.value.config c.deref_mut.result.now c.prepare.new.grid.core.value v c.number-caller.result (g.Q.Announces.call q) (g.Q.Announces.at q) (g.Q.Announces.reply c.answer-answered.result.0)
            (c.prepare.ensures.keeps.still (past v) s.core_stands) (c.prepare.ensures.keeps.same_config ∙ e) c.number-caller.ensures c.requires.may
            c.deref_mut.ensures.value c.prepare.new.grid.piece c.answer-answered.new.piece c.answer-answered.result.1 c.answer-answered.ensures.told answered g.E.Made.entries c.requires.made
            c.as_bytes.result.now (kept_by c.prepare.new.grid.keeping) (kept_by c.keep_told.new.keeper) waits c.as_bytes.ensures c.keep_told.ensures.told c.keep_told.ensures.untold)
            c.let_entries_go.ensures,
      ),
      marked same (c.keep_told.ensures.tells ∙ (ap (λ z. is_some (kept_by z)) c.prepare.ensures.journal.0 ∙ t)),
    )

pub leave-requires-2-clause-entries : goal.leave-requires-2-clause-entries
leave-requires-2-clause-entries g c =
    own-made (origin_of c.args.cell.now).core.value.config (past (view_of c.args.pass.now)) (view_of c.args.pass.now).number (g.Q.Announces.call c.args.question) (g.Q.Announces.at c.args.question) g.E.Made.entries c.requires.made

pub returns-clause-serves : goal.returns-clause-serves
returns-clause-serves g c =
    let k = origin_of c.args.cell.now in
    let v = view_of c.args.pass.now in
    let q = c.args.question in
    let s = lent-grid c.value-grid.result.now c.args.turn.value (past v) c.value-grid.ensures.value c.requires.stands.0 in
    let e = lent-config c.value-grid.result.now c.args.turn.value k.core.value.config c.value-grid.ensures.value c.requires.stands.1 in
    let fine = sym c.is_err.ensures.value ∙ c.if-is_err.false in
    let items = on-ok c.prepare.result fine c.prepare.ensures.items in
    let ready = on-ok c.prepare.result fine c.prepare.ensures.ready in
    announced-there k.core.value.config c.value-grid.result.now c.prepare.new.grid c.answer-answered.new.core v c.number-caller.result (g.Q.Announces.call q) (g.Q.Announces.at q) (g.Q.Announces.reply c.answer-answered.result.0) (g.Q.Announces.ready q c.prepare.new.grid.core.value) s e
    c.number-caller.ensures c.requires.may c.prepare.ensures.keeps c.prepare.ensures.shown items ready (lent-serves c.deref_mut.result.now c.prepare.new.grid.core.value c.answer-answered.new.core c.number-caller.result (g.Q.Announces.call q) (g.Q.Announces.at q) (g.Q.Announces.reply c.answer-answered.result.0) c.deref_mut.ensures.value c.answer-answered.ensures.serves) (λ ready. c.answer-answered.ensures.there (subst (λ (z : HubCore). g.Q.Announces.ready q z) (sym c.deref_mut.ensures.value) ready)) g.E.Made.entries c.requires.made (view_of c.leave-2.new.pass) c.leave-2.ensures.view.0 c.leave-2.ensures.view.1

pub returns-clause-reader : goal.returns-clause-reader
returns-clause-reader g c =
    let k = origin_of c.args.cell.now in
    let v = view_of c.args.pass.now in
    let q = c.args.question in
    let s = lent-grid c.value-grid.result.now c.args.turn.value (past v) c.value-grid.ensures.value c.requires.stands.0 in
    let e = lent-config c.value-grid.result.now c.args.turn.value k.core.value.config c.value-grid.ensures.value c.requires.stands.1 in
    let fine = sym c.is_err.ensures.value ∙ c.if-is_err.false in
    let items = on-ok c.prepare.result fine c.prepare.ensures.items in
    let ready = on-ok c.prepare.result fine c.prepare.ensures.ready in
    told-after c.tell-2.new.reader c.publish.new.self v (view_of c.leave-2.new.pass) g.E.Made.entries c.tell-2.ensures.told
    (announced-shown k.core.value.config c.value-grid.result.now c.prepare.new.grid c.answer-answered.new.core v c.number-caller.result (g.Q.Announces.call q) (g.Q.Announces.at q) (g.Q.Announces.reply c.answer-answered.result.0) (g.Q.Announces.ready q c.prepare.new.grid.core.value) s e
    c.number-caller.ensures c.requires.may c.prepare.ensures.keeps c.prepare.ensures.shown items ready (lent-serves c.deref_mut.result.now c.prepare.new.grid.core.value c.answer-answered.new.core c.number-caller.result (g.Q.Announces.call q) (g.Q.Announces.at q) (g.Q.Announces.reply c.answer-answered.result.0) c.deref_mut.ensures.value c.answer-answered.ensures.serves) (λ ready. c.answer-answered.ensures.there (subst (λ (z : HubCore). g.Q.Announces.ready q z) (sym c.deref_mut.ensures.value) ready)) g.E.Made.entries c.requires.made c.publish.new.self c.publish.ensures.published) c.leave-2.ensures.view.0
