pub mod Lengths
pub mod Staying
pub mod Sayings
pub mod PaceLaws
