mod PlaceLemmas
mod StatusLemmas
mod PlayLemmas
mod ServeLemmas
