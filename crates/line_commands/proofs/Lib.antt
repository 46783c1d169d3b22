pub mod ConvertLemmas
pub mod LineCommandLemmas
pub mod ShowLemmas
