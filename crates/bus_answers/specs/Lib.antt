pub mod Answered
pub mod AnsweringPart
