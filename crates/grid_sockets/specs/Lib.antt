pub mod Limits
pub mod Silences
pub mod Asking
