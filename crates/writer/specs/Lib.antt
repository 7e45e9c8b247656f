pub mod Writer
pub mod Inner
pub mod Promises
