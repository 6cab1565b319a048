pub mod Feeds
pub mod Verdicts
pub mod Checks
pub mod ReadIn
