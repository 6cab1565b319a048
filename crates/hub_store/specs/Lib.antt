pub mod Stores
pub mod Opens
pub mod Memory
