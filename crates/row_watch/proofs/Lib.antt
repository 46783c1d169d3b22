pub mod Commands
pub mod Form
pub mod Opened
pub mod Places
pub mod Steps
pub mod Taking
pub mod Texts
pub mod ToldStates
