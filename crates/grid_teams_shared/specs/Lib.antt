pub mod Links
pub mod Heads
pub mod Teams
pub mod Telling
pub mod Unserved
pub mod Serving
