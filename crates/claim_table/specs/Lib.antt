pub mod Cases
pub mod Claims
pub mod Laws
