pub mod AddressOut
