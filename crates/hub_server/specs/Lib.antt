pub mod Statuses
pub mod Crowds
pub mod Hands
