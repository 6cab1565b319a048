use Rattle.std.proofs.Common.{take}
use Rattle.grid_journal.specs.Fits.{AllFit, CapsFit}
use Rattle.grid_journal.proofs.fits.lists_fit.Given as goal

abbrev pub invariant-loop-caps : goal.invariant-loop-caps
invariant-loop-caps l = AllFit CapsFit (take l.caps-index l.lists)
