pub mod Datagrams
pub mod Items
pub mod Telling
