pub mod Alert
pub mod Alerts
pub mod WatchKept
pub mod WatchLaws
pub mod WatchOut
pub mod WatchPart
pub mod WatchRule
pub mod WatchStands
