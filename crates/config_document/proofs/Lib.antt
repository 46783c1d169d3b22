pub mod Apart
pub mod Cutting
pub mod Lists
pub mod Names
pub mod Numbers
pub mod Words
