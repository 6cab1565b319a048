use Rattle.std.proofs.Common.{refl}
use Rattle.hub_core.proofs.LocalSweepLemmas.{held-place, held-written}
use Rattle.hub_core.proofs.local.journal.JournalRecorder.record.Goals as goal

pub write-requires : goal.write-requires
write-requires c =
    let proved = c.history_laws.ensures in
    held-place proved _ _ _ _ _ (c.requires refl)

pub returns : goal.returns
returns c =
    let proved = c.history_laws.ensures in
    held-written proved _ _ _ _ _ _ _ _ _ (held-place proved _ _ _ _ _ (c.requires refl)) c.write.ensures
