mod WriteLemmas
mod EndLemmas
