use Rattle.grid_types.specs.declared.entry.FailWhy.TheVariants as why
use Rattle.grid_types.specs.Calls.{Call}
use Rattle.hub_core.specs.Replies.{ending_reply}
use Rattle.hub_core.specs.declared.answers.Ending.TheVariants as ending
use Rattle.grid_keeper.proofs.AlongLemmas.{along_on, call_along, closed_along, room_along, room_past}
use Rattle.grid_keeper.proofs.SettleLemmas.{ended_fewer, ended_freed, ended_stay, not_ended, not_ended_fewer, stays_over, stays_room}
use Rattle.grid_keeper.proofs.settling.end_created.Goals as goal

pub returns-then-is_err-clause-went : goal.returns-then-is_err-clause-went
returns-then-is_err-clause-went g c =
    along_on g.K.Keeper.disk c.args.hub.now c.room.new.self c.close.new.self (closed_along g.K.Keeper.disk c.room.new.self c.close.new.self c.room.ensures.open c.close.ensures.hub c.close.ensures.keeper)
    (room_along g.K.Keeper.disk c.args.hub.now c.room.new.self c.room.result c.requires.open c.room.ensures.ok c.room.ensures.err c.room.ensures.keeper)

pub returns-in_err-closing-clause-went : goal.returns-in_err-closing-clause-went
returns-in_err-closing-clause-went g c = along_on g.K.Keeper.disk c.args.hub.now c.room.new.self c.end.new.self (call_along g.K.Keeper.disk c.room.new.self c.end.new.self (Call.end c.args.session.now c.args.binding) _ ending_reply c.end.result c.end.ensures.kept) (room_along g.K.Keeper.disk c.args.hub.now c.room.new.self c.room.result c.requires.open c.room.ensures.ok c.room.ensures.err c.room.ensures.keeper)

pub returns-in-NoSession-clause-went : goal.returns-in-NoSession-clause-went
returns-in-NoSession-clause-went g c = along_on g.K.Keeper.disk c.args.hub.now c.room.new.self c.end.new.self (call_along g.K.Keeper.disk c.room.new.self c.end.new.self (Call.end c.args.session.now c.args.binding) _ ending_reply c.end.result c.end.ensures.kept) (room_along g.K.Keeper.disk c.args.hub.now c.room.new.self c.room.result c.requires.open c.room.ensures.ok c.room.ensures.err c.room.ensures.keeper)

pub returns-in-Ended-clause-went : goal.returns-in-Ended-clause-went
returns-in-Ended-clause-went g c =
    along_on g.K.Keeper.disk c.args.hub.now c.end.new.self c.finish.new.hub c.finish.ensures.went
    (along_on g.K.Keeper.disk c.args.hub.now c.room.new.self c.end.new.self (call_along g.K.Keeper.disk c.room.new.self c.end.new.self (Call.end c.args.session.now c.args.binding) _ ending_reply c.end.result c.end.ensures.kept) (room_along g.K.Keeper.disk c.args.hub.now c.room.new.self c.room.result c.requires.open c.room.ensures.ok c.room.ensures.err c.room.ensures.keeper))

pub returns-in-Ended-clause-none : goal.returns-in-Ended-clause-none
returns-in-Ended-clause-none g c =
    ended_freed g.K.Keeper.disk c.tokens_come_from_replies.ensures c.args.hub.now c.room.new.self c.end.new.self c.finish.new.hub (Call.end c.args.session.now c.args.binding) _ _ c.in-Ended.closing c.finish.result (room_past g.K.Keeper.disk c.args.hub.now c.room.new.self c.room.result c.room.ensures.ok c.room.ensures.err)
    c.journal-legal.ensures.legal c.in-Ended.is c.in_ok-closing.ensures.kept c.finish.ensures.freed c.requires.none

pub returns-in-Ended-clause-stay : goal.returns-in-Ended-clause-stay
returns-in-Ended-clause-stay g c =
    ended_stay g.K.Keeper.disk c.args.hub.now c.room.new.self c.end.new.self c.finish.new.hub c.args.session.now c.args.binding _ _ c.in-Ended.closing c.finish.result (room_past g.K.Keeper.disk c.args.hub.now c.room.new.self c.room.result c.room.ensures.ok c.room.ensures.err)
    c.in_ok-closing.ensures.kept c.finish.ensures.freed

pub returns-in-NoSession-clause-none : goal.returns-in-NoSession-clause-none
returns-in-NoSession-clause-none g c =
    not_ended g.K.Keeper.disk c.tokens_come_from_replies.ensures c.args.hub.now c.room.new.self c.end.new.self (Call.end c.args.session.now c.args.binding) _ _ (room_past g.K.Keeper.disk c.args.hub.now c.room.new.self c.room.result c.room.ensures.ok c.room.ensures.err)
    c.journal-legal.ensures.legal c.in-NoSession.is c.in_ok-closing.ensures.kept c.requires.none

pub returns-in-NoSession-clause-stay : goal.returns-in-NoSession-clause-stay
returns-in-NoSession-clause-stay g c = λ left bare held.
    stays_over g.K.Keeper.disk c.room.new.self c.end.new.self (Call.end c.args.session.now c.args.binding) _ _ left tt c.in_ok-closing.ensures.kept
    (stays_room g.K.Keeper.disk c.args.hub.now c.room.new.self left (room_past g.K.Keeper.disk c.args.hub.now c.room.new.self c.room.result c.room.ensures.ok c.room.ensures.err) held)

pub returns-in-Ended-clause-fewer : goal.returns-in-Ended-clause-fewer
returns-in-Ended-clause-fewer g c =
    ended_fewer g.K.Keeper.disk c.tokens_come_from_replies.ensures c.args.hub.now c.room.new.self c.end.new.self c.finish.new.hub (Call.end c.args.session.now c.args.binding) _ _ c.in-Ended.closing c.finish.result (room_past g.K.Keeper.disk c.args.hub.now c.room.new.self c.room.result c.room.ensures.ok c.room.ensures.err)
    c.in-Ended.is c.in_ok-closing.ensures.kept c.finish.ensures.freed

pub returns-in-NoSession-clause-fewer : goal.returns-in-NoSession-clause-fewer
returns-in-NoSession-clause-fewer g c =
    not_ended_fewer g.K.Keeper.disk c.tokens_come_from_replies.ensures c.args.hub.now c.room.new.self c.end.new.self (Call.end c.args.session.now c.args.binding) _ _ (room_past g.K.Keeper.disk c.args.hub.now c.room.new.self c.room.result c.room.ensures.ok c.room.ensures.err)
    c.in-NoSession.is c.in_ok-closing.ensures.kept
