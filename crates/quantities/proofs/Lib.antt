pub mod Found
pub mod InRange
pub mod Columns
pub mod Sayings
pub mod OneEntry
pub mod Order
