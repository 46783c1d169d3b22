pub mod Places
pub mod Configuring
pub mod Inputs
pub mod Tallies
pub mod Digits
pub mod Runs
