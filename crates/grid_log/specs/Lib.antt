pub mod Past
pub mod Facts
pub mod Queue
pub mod Events
pub mod Recalls
pub mod Logs
pub mod Logging
pub mod Words
