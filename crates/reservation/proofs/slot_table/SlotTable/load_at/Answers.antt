use Rattle.std.proofs.Common.{◌∙◌, sym}
use Rattle.reservation.proofs.RowLemmas.{load-is, load-none}
use Rattle.reservation.proofs.slot_table.SlotTable.load_at.Goals as goal

pub returns-in-Some : goal.returns-in-Some
returns-in-Some c =
    let proved = c.history_laws.ensures in
    record { of = λ g H st l. c.load.ensures ∙ load-is proved c.args.self.now c.args.node c.in-Some.slots.now (sym c.in-Some.ensures) g H st l }

pub returns-in-None : goal.returns-in-None
returns-in-None c =
    let proved = c.history_laws.ensures in
    record { of = λ g H st l. load-none proved c.args.self.now c.args.node (sym c.in-None.ensures) g H st l }
