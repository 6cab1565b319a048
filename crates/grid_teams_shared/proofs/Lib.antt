pub mod LinkLemmas
pub mod HeadLemmas
pub mod TeamLemmas
pub mod UnservedLemmas
pub mod ServedLemmas
pub mod HandingLemmas
