pub mod Sieving
pub mod Blocks
pub mod Printings
pub mod Strictness
pub mod Parentage
pub mod Bounds
pub mod Positions
pub mod NamesUnique
