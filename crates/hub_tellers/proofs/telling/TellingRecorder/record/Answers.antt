use Rattle.hub_tellers.proofs.telling.TellingRecorder.record.Goals as goal

pub returns : goal.returns
returns c = c.told_next-told.ensures
