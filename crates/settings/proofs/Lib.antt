pub mod Alone
pub mod RowTimeouts
