use Rattle.grid_types.specs.Calls.{Call}
use Rattle.std.specs.Prelude.{Err}
use Rattle.hub_core.specs.Replies.{binding_reply}
use Rattle.grid_keeper.proofs.OwnLemmas.{bind_closed, bind_kept, came}
use Rattle.grid_keeper.proofs.own.KeptHubOwnHub.bind.Goals as goal

pub returns-else-is_memory-clause-answers : goal.returns-else-is_memory-clause-answers
returns-else-is_memory-clause-answers g c =
    bind_kept g.K.Keeper.disk g.K.Keeper.faults c.args.self.now c.bind.new.self (Call.bind c.args.reservation c.args.session c.args.caps) c.args.at.0 (binding_reply c.in-Ok.answer) c.is_memory.result
    c.is_memory.ensures c.if-is_memory.false c.in-Ok.ensures.kept c.bind.ensures.later

pub returns-then-is_memory-clause-answers : goal.returns-then-is_memory-clause-answers
returns-then-is_memory-clause-answers g c =
    bind_closed g.K.Keeper.disk g.K.Keeper.faults c.args.self.now c.bind.new.self c.close.new.self (Call.bind c.args.reservation c.args.session c.args.caps) c.args.at.0 (binding_reply c.in-Ok.answer) c.close.result
    c.close.ensures.memory c.requires.open c.in-Ok.ensures.kept c.close.ensures.hub c.close.ensures.keeper c.close.ensures.closed c.bind.ensures.later

pub returns-in-Err-clause-answers : goal.returns-in-Err-clause-answers
returns-in-Err-clause-answers g c =
    came g.K.Keeper.disk g.K.Keeper.faults binding_reply c.args.self.now c.bind.new.self (Call.bind c.args.reservation c.args.session c.args.caps) c.args.at.0 (Err c.in-Err.fault)
    c.in-Err.ensures.kept c.bind.ensures.later c.in-Err.ensures.cause
