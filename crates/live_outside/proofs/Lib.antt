pub mod Within
pub mod Ways
