use Rattle.caps_merge.proofs.RegSizeLemmas.{well_sized}
use Rattle.caps_merge.proofs.laws.registrations_are_well_sized.Goals as goal

pub returns : goal.returns
returns c = well_sized
