use Rattle.grid_types.specs.declared.entry.FailWhy.TheVariants as why
use Rattle.grid_types.specs.Calls.{Call}
use Rattle.hub_core.specs.declared.answers.Ending.TheVariants as ending
use Rattle.grid_keeper.specs.Keeping.{cleared_reply}
use Rattle.grid_keeper.proofs.AlongLemmas.{along_on, call_along, closed_along, room_along, room_past}
use Rattle.grid_keeper.proofs.SettleLemmas.{clear_none, clear_fewer, stays_over, stays_room}
use Rattle.grid_keeper.proofs.settling.clear_queue.Goals as goal

pub returns-then-is_err-clause-went : goal.returns-then-is_err-clause-went
returns-then-is_err-clause-went g c =
    along_on g.K.Keeper.disk c.args.hub.now c.room.new.self c.close.new.self (closed_along g.K.Keeper.disk c.room.new.self c.close.new.self c.room.ensures.open c.close.ensures.hub c.close.ensures.keeper)
    (room_along g.K.Keeper.disk c.args.hub.now c.room.new.self c.room.result c.requires.open c.room.ensures.ok c.room.ensures.err c.room.ensures.keeper)

pub returns-in_err-clear-clause-went : goal.returns-in_err-clear-clause-went
returns-in_err-clear-clause-went g c =
    along_on g.K.Keeper.disk c.args.hub.now c.room.new.self c.clear.new.self (call_along g.K.Keeper.disk c.room.new.self c.clear.new.self Call.clear _ cleared_reply c.clear.result c.clear.ensures.kept)
    (room_along g.K.Keeper.disk c.args.hub.now c.room.new.self c.room.result c.requires.open c.room.ensures.ok c.room.ensures.err c.room.ensures.keeper)

pub returns-clause-went : goal.returns-clause-went
returns-clause-went g c =
    along_on g.K.Keeper.disk c.args.hub.now c.room.new.self c.clear.new.self (call_along g.K.Keeper.disk c.room.new.self c.clear.new.self Call.clear _ cleared_reply c.clear.result c.clear.ensures.kept)
    (room_along g.K.Keeper.disk c.args.hub.now c.room.new.self c.room.result c.requires.open c.room.ensures.ok c.room.ensures.err c.room.ensures.keeper)

pub returns-clause-none : goal.returns-clause-none
returns-clause-none g c =
    clear_none g.K.Keeper.disk c.tokens_come_from_replies.ensures c.args.hub.now c.room.new.self c.clear.new.self _ _ (room_past g.K.Keeper.disk c.args.hub.now c.room.new.self c.room.result c.room.ensures.ok c.room.ensures.err)
    c.journal-legal.ensures.legal c.in_ok-clear.ensures.kept c.requires.none

pub returns-clause-stay : goal.returns-clause-stay
returns-clause-stay g c = λ left bare held.
    stays_over g.K.Keeper.disk c.room.new.self c.clear.new.self Call.clear _ _ left tt c.in_ok-clear.ensures.kept
    (stays_room g.K.Keeper.disk c.args.hub.now c.room.new.self left (room_past g.K.Keeper.disk c.args.hub.now c.room.new.self c.room.result c.room.ensures.ok c.room.ensures.err) held)

pub returns-clause-fewer : goal.returns-clause-fewer
returns-clause-fewer g c = clear_fewer g.K.Keeper.disk c.tokens_come_from_replies.ensures c.args.hub.now c.room.new.self c.clear.new.self _ _ (room_past g.K.Keeper.disk c.args.hub.now c.room.new.self c.room.result c.room.ensures.ok c.room.ensures.err) c.in_ok-clear.ensures.kept
