pub mod Apart
pub mod Heads
pub mod Play
pub mod Blocks
pub mod Refusals
