pub mod Wishes
pub mod Tables
pub mod Choosing
pub mod Judging
pub mod Promises
pub mod Inner
