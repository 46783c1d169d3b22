pub mod Check
pub mod Configuring
