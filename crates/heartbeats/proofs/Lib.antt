pub mod BeatsAreRead
pub mod DueLemmas
pub mod Form
pub mod Grid
pub mod Promises
pub mod Steps
