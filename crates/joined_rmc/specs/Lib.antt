pub mod Lasting
pub mod Kept
pub mod RmcOut
pub mod JoinStands
pub mod RmcPart
