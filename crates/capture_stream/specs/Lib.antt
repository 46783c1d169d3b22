pub mod Answering
pub mod LineReader
pub mod Lines
pub mod Progress
pub mod Writer
