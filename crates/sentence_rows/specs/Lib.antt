pub mod Held
pub mod Ready
