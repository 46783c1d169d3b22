pub mod Event
pub mod Emit
