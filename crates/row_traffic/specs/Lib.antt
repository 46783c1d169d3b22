pub mod Sending
pub mod NetCalls
pub mod NetFaults
pub mod Saying
