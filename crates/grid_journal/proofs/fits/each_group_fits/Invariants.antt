use Rattle.std.proofs.Common.{take}
use Rattle.grid_journal.specs.Fits.{AllFit, GroupFits}
use Rattle.grid_journal.proofs.fits.each_group_fits.Given as goal

abbrev pub invariant-loop-group : goal.invariant-loop-group
invariant-loop-group l = AllFit GroupFits (take l.group-index l.groups)
