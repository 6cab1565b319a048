use Rattle.std.proofs.Common.{rules, ap}
use Rattle.turn_cell.proofs.Keeps.{tells, hears, settles}
use Rattle.turn_cell.proofs.cell.TurnCell.follow.Goals as goal

pub split_seat-note-requires : goal.split_seat-note-requires
split_seat-note-requires g c = (search rules, search rules, tells g.V.Stands.stands g.V.Stands.mark _ _ _ _ c.requires.free.1)

pub join_seat-requires : goal.join_seat-requires
join_seat-requires g c = (search rules, search rules, search rules, search rules, hears g.V.Stands.stands g.V.Stands.mark _ _ _ _ _ _ c.requires.free.0 (ap (λ m. m.0.stage) c.split_seat-note.ensures.4))

pub load-requires : goal.load-requires
load-requires g c = (search rules, search rules, settles g.V.Stands.stands g.V.Stands.mark _ _ _ _ _ _ _ (ap (λ m. m.0.stage) c.join_seat.ensures.2))
