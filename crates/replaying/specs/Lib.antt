pub mod LengthLaws
pub mod ReplayCases
pub mod Replayed
pub mod Replaying
