pub mod FrameTold
pub mod MessageTold
pub mod ChipUnique
pub mod SameAnswers
