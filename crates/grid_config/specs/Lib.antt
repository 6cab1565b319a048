pub mod Configured
pub mod Driver
pub mod Input
pub mod Ran
pub mod Rows
pub mod Servers
pub mod Values
pub mod Words
