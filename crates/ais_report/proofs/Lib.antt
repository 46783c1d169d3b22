pub mod BitLemmas
pub mod MinuteLemmas
pub mod FitLemmas
pub mod SixLemmas
pub mod ReadLemmas
pub mod ValidLemmas
