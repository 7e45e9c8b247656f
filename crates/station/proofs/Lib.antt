pub mod Sendings
pub mod FarSide
pub mod Needing
pub mod Gating
pub mod Planning
pub mod StepUnique
