pub mod About
pub mod Part
pub mod Payloads
pub mod Told
pub mod Layout
pub mod Sound
pub mod Saying
pub mod Laws
