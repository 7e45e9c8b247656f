pub mod Tables
pub mod Named
pub mod Masks
pub mod Inner
pub mod Promises
