pub mod Runs
pub mod Isolated
