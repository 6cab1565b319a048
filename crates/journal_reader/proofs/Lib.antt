mod StreamLemmas
mod ReadLemmas
