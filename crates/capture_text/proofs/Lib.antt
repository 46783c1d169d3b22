pub mod Again
pub mod Computed
pub mod Cuts
pub mod Data
pub mod Decimals
pub mod Digits
pub mod Frames
pub mod HexadecimalLemmas
pub mod Laws
pub mod LineEnds
pub mod Lines
pub mod Numbers
pub mod OneLine
pub mod Times
mod UsualLines
mod UsualFront
