pub mod Changes
pub mod Steps
pub mod Completing
pub mod Promises
pub mod Holding
pub mod Selected
pub mod Picked
