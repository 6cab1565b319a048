pub mod Replays
pub mod Keeping
pub mod Holds
pub mod Opening
pub mod Settling
pub mod Runs
