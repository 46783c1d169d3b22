pub mod FrameLemmas
pub mod NameLemmas
pub mod PartsLemmas
pub mod PatternLemmas
