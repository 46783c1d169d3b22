pub mod Writing
pub mod Calendar
pub mod Columns
pub mod Reading
pub mod Rmc
pub mod Stable
pub mod Laws
