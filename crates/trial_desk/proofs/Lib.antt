mod KeptLemmas
mod HoldsLemmas
