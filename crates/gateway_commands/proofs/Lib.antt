pub use Rattle.replaying.proofs.Events
pub use Rattle.serving.proofs.Completed
pub mod Alone
pub mod FormLemmas
pub mod KnownLemmas
pub mod ReplayCommandLemmas
pub mod ReplayLemmas
pub mod ServeLemmas
