pub mod Configs
pub mod Endpoints
pub mod Laws
pub mod Patterns
pub mod Presets
pub mod Rows
pub mod Settings
