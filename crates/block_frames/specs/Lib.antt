pub mod Frames
pub mod Inputs
pub mod Blocks
pub mod OneWay
