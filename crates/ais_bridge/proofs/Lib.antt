pub mod CommandLemmas
pub mod EventLemmas
pub mod RoomLemmas
pub mod SentenceLemmas
pub mod Form
pub mod ShipsAreRead
