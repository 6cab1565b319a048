use Rattle.hub_core.specs.HubView.{past}
use Rattle.grid_keeper.proofs.AlongLemmas.{along_on}
use Rattle.grid_keeper.proofs.SettleLemmas.{idle_first, idle_on, none_held}
use Rattle.grid_keeper.proofs.settling.settle.Goals as goal

pub fail_all-requires : goal.fail_all-requires
fail_all-requires g c = record { open_now = c.requires.open; all = c.requires.left }

pub clear_queue-requires-clause-none : goal.clear_queue-requires-clause-none
clear_queue-requires-clause-none g c = none_held (past c.free_all.new.hub.hub) c.free_all.new.left c.in_ok-free_all.ensures.ready.all c.in_ok-free_all.ensures.none c.in_ok-free_all.ensures.closings

pub take_all-requires : goal.take_all-requires
take_all-requires g c =
    idle_on g.K.Keeper.disk c.free_all.new.hub c.clear_queue.new.hub c.free_all.new.left (idle_first g.K.Keeper.disk c.free_all.new.hub c.free_all.new.left c.in_ok-free_all.ensures.ready c.in_ok-free_all.ensures.none c.in_ok-free_all.ensures.closings)
    c.in_ok-clear_queue.ensures.open c.in_ok-clear_queue.ensures.none c.in_ok-clear_queue.ensures.stay c.in_ok-clear_queue.ensures.fewer

pub returns-in_err-free_all-clause-went : goal.returns-in_err-free_all-clause-went
returns-in_err-free_all-clause-went g c = along_on g.K.Keeper.disk c.args.hub.now c.fail_all.new.hub c.free_all.new.hub c.free_all.ensures.went c.fail_all.ensures.went

pub returns-in_err-clear_queue-clause-went : goal.returns-in_err-clear_queue-clause-went
returns-in_err-clear_queue-clause-went g c = along_on g.K.Keeper.disk c.args.hub.now c.free_all.new.hub c.clear_queue.new.hub c.clear_queue.ensures.went (along_on g.K.Keeper.disk c.args.hub.now c.fail_all.new.hub c.free_all.new.hub c.free_all.ensures.went c.fail_all.ensures.went)

pub returns-clause-went : goal.returns-clause-went
returns-clause-went g c = along_on g.K.Keeper.disk c.args.hub.now c.clear_queue.new.hub c.take_all.new.hub c.take_all.ensures.went (along_on g.K.Keeper.disk c.args.hub.now c.free_all.new.hub c.clear_queue.new.hub c.clear_queue.ensures.went (along_on g.K.Keeper.disk c.args.hub.now c.fail_all.new.hub c.free_all.new.hub c.free_all.ensures.went c.fail_all.ensures.went))
