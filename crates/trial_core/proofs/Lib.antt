mod ListLemmas
mod PlainLemmas
mod CostLemmas
mod TurnLemmas
mod WayLemmas
