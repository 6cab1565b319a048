pub mod Teams
pub mod Words
