pub mod Holders
pub mod Chosen
pub mod Rows
pub mod Steps
pub mod Commands
pub mod Joins
pub mod Form
pub mod RmcIsRead
