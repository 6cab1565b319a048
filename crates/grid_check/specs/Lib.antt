pub mod Running
pub mod Writes
pub mod Making
pub mod Words
