pub mod Ranks
pub mod SubjectRules
pub mod Notes
pub mod Choices
pub mod Laws
