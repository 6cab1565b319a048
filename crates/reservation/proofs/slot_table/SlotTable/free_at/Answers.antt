use Rattle.std.proofs.Common.{◌∙◌, sym}
use Rattle.reservation.proofs.RowLemmas.{free-is-told}
use Rattle.reservation.proofs.slot_table.SlotTable.free_at.Goals as goal

pub returns-in-Some : goal.returns-in-Some
returns-in-Some c =
    let proved = c.history_laws.ensures in
    record { of = λ g H st l h. c.free.ensures ∙ free-is-told proved c.args.self.now c.args.node c.in-Some.slots.now (sym c.in-Some.ensures) g H st l h }
