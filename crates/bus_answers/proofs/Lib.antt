pub mod Answers
pub mod Form
