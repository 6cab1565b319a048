use Rattle.std.proofs.Common.{take}
use Rattle.grid_journal.specs.Fits.{AllFit, CapFits}
use Rattle.grid_journal.proofs.fits.members_fit.Given as goal

abbrev pub invariant-loop-cap : goal.invariant-loop-cap
invariant-loop-cap l = AllFit CapFits (take l.cap-index l.members)
