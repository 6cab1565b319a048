pub mod Replays
pub mod Lasts
