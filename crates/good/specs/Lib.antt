pub mod Good
pub mod Goodness
pub mod Learned
