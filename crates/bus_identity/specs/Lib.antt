pub mod PgnLists
pub mod Payloads
pub mod Requests
pub mod Answers
pub mod Laws
