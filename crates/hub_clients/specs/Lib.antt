pub mod Beats
pub mod Turns
