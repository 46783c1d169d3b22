pub mod BeatOut
pub mod Beats
pub mod Due
pub mod Kept
pub mod Laws
