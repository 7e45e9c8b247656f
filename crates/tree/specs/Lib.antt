pub mod Block
pub mod Codes
pub mod Form
pub mod Fields
pub mod Order
pub mod Levels
pub mod Wide
pub mod Promises
