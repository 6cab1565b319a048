pub mod ImageLemmas
pub mod HoldsLemmas
pub mod FileLemmas
