pub mod Byte
pub mod Names
pub mod Sentence
pub mod Sum
pub mod Fields
pub mod Reading
