pub mod Bits
pub mod Places
pub mod Lay
pub mod Promises
