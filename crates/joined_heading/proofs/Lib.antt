pub mod Lines
pub mod Tenths
pub mod Noting
pub mod Steps
pub mod Opening
pub mod HeadingIsRead
pub mod LawProofs
pub mod Form
