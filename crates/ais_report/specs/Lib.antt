pub mod Bits
pub mod Fields
pub mod Armour
pub mod Converted
pub mod Read
