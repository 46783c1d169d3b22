pub mod Available
pub mod Law
pub mod Parts
pub mod Pieces
pub mod ReadBack
pub mod Selected
