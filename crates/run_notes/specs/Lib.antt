pub mod Pacing
pub mod Reasons
