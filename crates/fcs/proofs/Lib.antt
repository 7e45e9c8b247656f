pub mod Polynomials
pub mod Registers
pub mod ByOctet
pub mod Receiver
pub mod Vectors
pub mod Unique
