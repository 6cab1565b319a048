pub mod Disks
pub mod MemDisks
