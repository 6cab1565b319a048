mod ReadLemmas
mod OrderLemmas
mod PlaceLemmas
