use Rattle.trial_faults.proofs.turns.stepped_lent.Goals as goal

pub loop-init : goal.loop-init
loop-init g c = record {
  seated = c.new-seat.ensures.seated c.args.hub.now c.requires.own;
  reader = c.requires.lender;
}
