pub mod MadeLemmas
pub mod StartLemmas
