pub mod Builds
pub mod Looks
pub mod Said
