use Rattle.grid_journal.specs.Fits.{CapsFit}
use Rattle.grid_journal.proofs.FitLemmas.{one_more_fits}
use Rattle.grid_journal.proofs.fits.lists_fit.Goals as goal

pub loop-caps-preserved : goal.loop-caps-preserved
loop-caps-preserved c = one_more_fits CapsFit c.args.lists.now c.loop-caps.caps-index c.caps-item.result c.loop-caps-test.true c.caps-item.is c.loop-caps.invariant c.in_ok-caps_fit.ensures
