pub mod Frame
pub mod Identifier
pub mod Name
pub mod Pgns
