pub mod SourceOut
pub mod SourcesPart
pub mod WatchKept
pub mod WatchStands
