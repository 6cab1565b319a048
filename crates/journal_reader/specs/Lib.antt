pub mod Feeds
pub mod Readings
