pub mod Meaning
pub mod Written
pub mod Minimal
pub mod Writing
pub mod Coded
pub mod MinimalForm
pub mod Inner
