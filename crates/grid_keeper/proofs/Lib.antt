pub mod KeepLemmas
mod KeptLemmas
mod HoldsLemmas
mod ThereLemmas
mod AgainLemmas
mod SlotLemmas
mod OpenLemmas
mod AlongLemmas
mod TableLemmas
mod ReplayLemmas
mod SettleLemmas
mod QuitLemmas
mod OwnLemmas
