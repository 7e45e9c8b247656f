pub mod Apart
pub mod Taking
pub mod Stepping
pub mod Walking
pub mod Beside
pub mod Opening
