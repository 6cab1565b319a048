use Rattle.grid_journal.specs.Fits.{CapFits}
use Rattle.grid_journal.proofs.FitLemmas.{one_more_fits}
use Rattle.grid_journal.proofs.fits.members_fit.Goals as goal

pub loop-cap-preserved : goal.loop-cap-preserved
loop-cap-preserved c = one_more_fits CapFits c.args.members.now c.loop-cap.cap-index c.cap-item.result c.loop-cap-test.true c.cap-item.is c.loop-cap.invariant c.in_ok-cap_fits.ensures
