pub mod Alone
pub mod Beside
pub mod ConfigOf
pub mod Keys
pub mod Reading
pub mod Texts
pub mod Unknown
