pub mod Faults
pub mod Keys
pub mod Kinds
pub mod Patterns
pub mod Places
pub mod Twice
pub mod Texts
pub mod Unknown
