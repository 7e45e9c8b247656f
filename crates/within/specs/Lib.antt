pub mod Pairing
pub mod Promises
