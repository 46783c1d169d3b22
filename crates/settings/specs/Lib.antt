pub mod Heartbeat
pub mod Settings
pub mod Setup
pub mod Watch
