pub mod SessionTelling
