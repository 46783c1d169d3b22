pub mod Demo
pub mod Input
pub mod Numbers
pub mod Setup
pub mod Tally
pub mod Turns
