pub mod NodeLemmas
pub mod OptionLemmas
pub mod PlayLemmas
