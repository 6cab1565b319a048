use Rattle.journal_keeper.proofs.ImageLemmas
use Rattle.journal_keeper.proofs.laws.fronts_are_images.Goals as goal

pub returns : goal.returns
returns c = ImageLemmas.fronts_are_images
