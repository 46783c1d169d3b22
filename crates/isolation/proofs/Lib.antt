pub mod RunLemmas
pub mod Isolated
