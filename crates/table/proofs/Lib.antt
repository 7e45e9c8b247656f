pub mod FourEvents
pub mod Lines
pub mod Needing
