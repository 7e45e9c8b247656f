pub mod Kinds
pub mod Nonstandard
pub mod Reader
pub mod Check
pub mod Inner
pub mod Promises
