use Rattle.trial_faults.proofs.seats.stepped.Goals as goal

pub loop-init : goal.loop-init
loop-init g c = c.new-seat.ensures.seated c.args.hub.now c.requires.own
