pub mod Images
pub mod Keeps
pub mod Keepings
