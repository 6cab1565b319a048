pub mod Joined
pub mod Status
pub mod Queue
