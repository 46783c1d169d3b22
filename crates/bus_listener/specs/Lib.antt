pub use Rattle.gate_core.specs.Steps
pub mod Kinds
pub mod Heard
pub mod Kept
pub mod Lent
pub mod Noting
pub mod Promises
