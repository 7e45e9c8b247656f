pub mod Heads
pub mod Putting
pub mod Parents
pub mod WriterUnique
pub mod Checking
