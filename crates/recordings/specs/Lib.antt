pub mod Idle
pub mod IdleLaws
pub mod Laws
pub mod RecordedRuns
pub mod Separation
