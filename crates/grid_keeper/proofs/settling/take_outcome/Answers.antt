use Rattle.grid_types.specs.Calls.{Call}
use Rattle.hub_core.specs.Replies.{polled_reply}
use Rattle.grid_keeper.proofs.AlongLemmas.{along_on, call_along, closed_along}
use Rattle.grid_keeper.proofs.SettleLemmas.{settled_fewer, settled_none, settled_stay}
use Rattle.grid_keeper.proofs.settling.take_outcome.Goals as goal

pub returns-in_err-outcome-clause-went : goal.returns-in_err-outcome-clause-went
returns-in_err-outcome-clause-went g c = (call_along g.K.Keeper.disk c.args.hub.now c.poll.new.self (Call.poll c.args.ticket) _ polled_reply c.poll.result c.poll.ensures.kept)

pub end_outcome-requires-clause-none : goal.end_outcome-requires-clause-none
end_outcome-requires-clause-none g c =
    settled_none g.K.Keeper.disk c.tokens_come_from_replies.ensures c.args.hub.now c.poll.new.self c.args.ticket _ _ c.in-Settled.outcome c.journal-legal.ensures.legal c.in-Settled.is c.in_ok-outcome.ensures.kept c.requires.none

pub returns-in-Settled-clause-went : goal.returns-in-Settled-clause-went
returns-in-Settled-clause-went g c = along_on g.K.Keeper.disk c.args.hub.now c.poll.new.self c.end_outcome.new.hub c.end_outcome.ensures.went (call_along g.K.Keeper.disk c.args.hub.now c.poll.new.self (Call.poll c.args.ticket) _ polled_reply c.poll.result c.poll.ensures.kept)

pub returns-in-Settled-clause-stay : goal.returns-in-Settled-clause-stay
returns-in-Settled-clause-stay g c =
    settled_stay g.K.Keeper.disk c.args.hub.now c.poll.new.self c.end_outcome.new.hub c.args.ticket _ _ c.end_outcome.result c.in_ok-outcome.ensures.kept c.end_outcome.ensures.stay

pub returns-in-Settled-clause-fewer : goal.returns-in-Settled-clause-fewer
returns-in-Settled-clause-fewer g c =
    settled_fewer g.K.Keeper.disk c.tokens_come_from_replies.ensures c.args.hub.now c.poll.new.self c.end_outcome.new.hub c.args.ticket _ _ c.in-Settled.outcome c.end_outcome.result c.in-Settled.is c.in_ok-outcome.ensures.kept c.end_outcome.ensures.fewer

pub returns-in-Yours-clause-went : goal.returns-in-Yours-clause-went
returns-in-Yours-clause-went g c =
    along_on g.K.Keeper.disk c.args.hub.now c.poll.new.self c.close.new.self (closed_along g.K.Keeper.disk c.poll.new.self c.close.new.self c.in_ok-outcome.ensures.kept.stays_open c.close.ensures.hub c.close.ensures.keeper)
    (call_along g.K.Keeper.disk c.args.hub.now c.poll.new.self (Call.poll c.args.ticket) _ polled_reply c.poll.result c.poll.ensures.kept)

pub returns-in-NotYet-clause-went : goal.returns-in-NotYet-clause-went
returns-in-NotYet-clause-went g c =
    along_on g.K.Keeper.disk c.args.hub.now c.poll.new.self c.close-in-NotYet.new.self (closed_along g.K.Keeper.disk c.poll.new.self c.close-in-NotYet.new.self c.in_ok-outcome.ensures.kept.stays_open c.close-in-NotYet.ensures.hub c.close-in-NotYet.ensures.keeper)
    (call_along g.K.Keeper.disk c.args.hub.now c.poll.new.self (Call.poll c.args.ticket) _ polled_reply c.poll.result c.poll.ensures.kept)

pub returns-in-Memory-clause-went : goal.returns-in-Memory-clause-went
returns-in-Memory-clause-went g c =
    along_on g.K.Keeper.disk c.args.hub.now c.poll.new.self c.close-in-Memory.new.self (closed_along g.K.Keeper.disk c.poll.new.self c.close-in-Memory.new.self c.in_ok-outcome.ensures.kept.stays_open c.close-in-Memory.ensures.hub c.close-in-Memory.ensures.keeper)
    (call_along g.K.Keeper.disk c.args.hub.now c.poll.new.self (Call.poll c.args.ticket) _ polled_reply c.poll.result c.poll.ensures.kept)
