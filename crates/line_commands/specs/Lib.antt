pub mod Convert
pub mod LineCommand
pub mod Says
pub mod Show
