pub mod Phases
pub mod Rows
pub mod Promises
pub mod Bound
pub mod Inner
