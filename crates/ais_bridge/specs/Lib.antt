pub use Rattle.bus_listener.specs.Heard
pub use Rattle.bus_listener.specs.Kinds
pub mod Reports
pub mod AisOut
pub mod AisKinds
pub mod AisKept
pub mod Promises
pub mod AisPart
