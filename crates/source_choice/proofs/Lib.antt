pub mod NoteLemmas
pub mod ChoiceLemmas
pub mod Places
