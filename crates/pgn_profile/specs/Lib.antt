pub mod Layout
pub mod Part
pub mod Piece
pub mod Profiled
pub mod Selector
