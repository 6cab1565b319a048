pub mod Memory
pub mod Kinds
pub mod Leads
pub mod KindLaws
pub mod Starts
pub mod Laws
