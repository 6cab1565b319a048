mod GoingLemmas
mod SettlingLemmas
