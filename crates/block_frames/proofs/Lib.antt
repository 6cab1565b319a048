pub mod ReadLemmas
pub mod OneWayLemmas
