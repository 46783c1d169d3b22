pub mod Pairs
pub mod Arrivals
pub mod Numbered
pub mod StreamLemmas
