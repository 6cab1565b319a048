pub mod LawLemmas
pub mod ServesLemmas
pub mod RunLemmas
pub mod StartLemmas
