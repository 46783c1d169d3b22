pub mod FurtherRule
pub mod FurtherOut
pub mod Kept
pub mod Promises
pub mod QuantityKinds
pub mod FurtherPart
