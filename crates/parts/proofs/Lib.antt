pub mod Absent
pub mod Empty
pub mod Lines
pub mod Made
pub mod Speaking
