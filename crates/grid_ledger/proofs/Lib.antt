mod BoolLemmas
mod FactLemmas
mod NoteLemmas
mod OpenLemmas
mod SlotLemmas
