pub mod Overdue
pub mod Lent
pub mod Heard
pub mod SessionTold
pub mod MeaningOf
