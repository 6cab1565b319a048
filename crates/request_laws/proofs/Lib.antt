pub mod NarrowLemmas
pub mod MemoryLemmas
pub mod KindLemmas
pub mod LeadLemmas
mod CountLemmas
mod StartLemmas
mod PollLemmas
mod NewestLemmas
mod ClockLemmas
