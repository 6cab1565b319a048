pub mod ApartLemmas
pub mod PlaceLemmas
pub mod TeamLemmas
pub mod HeadLemmas
pub mod BlockLemmas
pub mod TeamBlockLemmas
pub mod ManyBlocksLemmas
