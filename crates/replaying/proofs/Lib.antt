pub mod Events
pub mod Lengths
pub mod ReplayCases
pub mod Replays
pub mod SendingLemmas
