pub mod Lines
pub mod LinesAreRead
