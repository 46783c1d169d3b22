pub mod Plain
pub mod Laws
pub mod Pace
pub mod PaceLaws
pub mod Streams
