pub mod Sending
pub mod Sorting
pub mod Acting
pub mod Stepping
pub mod Promises
pub mod Inner
