pub mod Counts
pub mod Verdicts
pub mod Lawful
pub mod SplitRuns
pub mod Assemblies
pub mod Keys
pub mod Sources
