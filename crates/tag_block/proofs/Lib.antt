mod Classes
pub mod Run
pub mod Sum
pub mod Loops
pub mod Numbers
pub mod Found
pub mod Settling
pub mod Laws
pub mod Again
pub mod Decimal
pub mod Written
pub mod FormMachine
pub mod FormFaults
pub mod GroupVerdicts
pub mod GroupPrefixes
pub mod GroupKeys
pub mod Ranges
