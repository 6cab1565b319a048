pub mod FaultLemmas
mod NameLemmas
pub mod OrderLemmas
pub mod ReadingLemmas
