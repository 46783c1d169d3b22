pub mod Failing
pub mod Hosts
pub mod Pairs
pub mod PatternPairs
pub mod PresetLemmas
pub mod SettingsLemmas
pub mod Texts
