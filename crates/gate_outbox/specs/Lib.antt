pub mod Output
pub mod Kept
pub mod Lending
