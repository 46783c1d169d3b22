pub mod Supervised
