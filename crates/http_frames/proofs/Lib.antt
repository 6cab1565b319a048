pub mod RoomLemmas
pub mod TargetLemmas
pub mod HeadLemmas
pub mod ChunkLemmas
pub mod NumberLemmas
pub mod FieldLemmas
pub mod FrameLemmas
pub mod UniqueLemmas
pub mod AnswerLemmas
pub mod PartLemmas
pub mod PlainLemmas
pub mod ExpectLemmas
pub mod ConnectionLemmas
pub mod MoreLemmas
pub mod ReplyLemmas
pub mod ReplyStepLemmas
pub mod ReplyUniqueLemmas
pub mod BoundLemmas
pub mod LineLemmas
pub mod WrittenLemmas
pub mod WrittenRequestLemmas
pub mod ValueLemmas
mod FeedLemmas
mod EndLemmas
mod ChunkFeedLemmas
mod AlikeLemmas
mod WaitLemmas
mod CalmLemmas
mod CalmLineLemmas
mod FaultyLemmas
mod StayLemmas
mod StayOpenLemmas
mod WrittenOpenLemmas
