pub mod Exact
pub mod LastZero
pub mod ReaderUnique
pub mod WriterUnique
pub mod Vectors
