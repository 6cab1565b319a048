use Rattle.grid_types.specs.declared.entry.FailWhy.TheVariants as why
use Rattle.grid_types.specs.Calls.{Call}
use Rattle.grid_keeper.specs.Keeping.{freed_reply}
use Rattle.grid_keeper.proofs.AlongLemmas.{call_along, closed_along}
use Rattle.grid_keeper.proofs.settling.finish.Goals as goal

pub returns-then-not-ask_to_end-clause-went : goal.returns-then-not-ask_to_end-clause-went
returns-then-not-ask_to_end-clause-went g c = closed_along g.K.Keeper.disk c.args.hub.now c.close.new.self c.requires.open c.close.ensures.hub c.close.ensures.keeper

pub returns-clause-went : goal.returns-clause-went
returns-clause-went g c = call_along g.K.Keeper.disk c.args.hub.now c.freed.new.self (Call.freed c.args.closing) 0 freed_reply c.freed.result c.freed.ensures.kept
