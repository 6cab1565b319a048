use Rattle.grid_types.proofs.MoveLemmas.{base-moves, suspicion-moves, count-moves, held-moves, beat-moves, turn-moves, holder-moves, owner-moves, load-moves, place-moves, bar-moves, live-moves, active-moves, published-moves, queue-moves}
use Rattle.grid_types.proofs.laws.one_more_entry.Goals as goal

pub returns-clause-base : goal.returns-clause-base
returns-clause-base c = base-moves

pub returns-clause-suspicion : goal.returns-clause-suspicion
returns-clause-suspicion c = suspicion-moves

pub returns-clause-count : goal.returns-clause-count
returns-clause-count c = count-moves

pub returns-clause-beat : goal.returns-clause-beat
returns-clause-beat c = beat-moves

pub returns-clause-turned : goal.returns-clause-turned
returns-clause-turned c = turn-moves

pub returns-clause-holder : goal.returns-clause-holder
returns-clause-holder c = holder-moves

pub returns-clause-owner : goal.returns-clause-owner
returns-clause-owner c = owner-moves

pub returns-clause-load : goal.returns-clause-load
returns-clause-load c = load-moves

pub returns-clause-held : goal.returns-clause-held
returns-clause-held c = held-moves

pub returns-clause-place : goal.returns-clause-place
returns-clause-place c = place-moves

pub returns-clause-barred : goal.returns-clause-barred
returns-clause-barred c = bar-moves

pub returns-clause-live : goal.returns-clause-live
returns-clause-live c = live-moves

pub returns-clause-active : goal.returns-clause-active
returns-clause-active c = active-moves

pub returns-clause-published : goal.returns-clause-published
returns-clause-published c = published-moves

pub returns-clause-unsettled : goal.returns-clause-unsettled
returns-clause-unsettled c = queue-moves
