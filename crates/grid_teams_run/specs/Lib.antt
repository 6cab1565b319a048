pub mod Teams
pub mod Statuses
pub mod Running
pub mod Steps
pub mod Laws
