use Rattle.grid_journal.specs.Fits.{GroupFits}
use Rattle.grid_journal.proofs.FitLemmas.{one_more_fits}
use Rattle.grid_journal.proofs.fits.each_group_fits.Goals as goal

pub loop-group-preserved : goal.loop-group-preserved
loop-group-preserved c = one_more_fits GroupFits c.args.groups.now c.loop-group.group-index c.group-item.result c.loop-group-test.true c.group-item.is c.loop-group.invariant c.in_ok-group_fits.ensures
