pub mod Codes
pub mod Bodies
pub mod ReadAgain
