pub mod Form
pub mod WatchSteps
