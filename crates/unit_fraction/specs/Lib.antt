pub mod Round
pub mod Digits
pub mod Text
pub mod Reading
pub mod Laws
