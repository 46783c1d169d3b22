pub mod Nearest
pub mod Round
pub mod Text
pub mod Number
pub mod DecimalLaws
pub mod ThereAndBack
