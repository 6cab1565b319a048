mod AwaitedLemmas
mod StreamLemmas
