pub mod Pieces
pub mod Lines
pub mod Sources
pub mod TakenLines
pub mod Saying
pub mod Counts
pub mod Groups
