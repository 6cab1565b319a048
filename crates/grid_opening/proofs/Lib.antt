mod GoesLemmas
mod ReadLemmas
mod SlotLemmas
mod StepLemmas
