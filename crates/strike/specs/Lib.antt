pub mod Rewriting
pub mod Striking
pub mod Promises
pub mod Inner
