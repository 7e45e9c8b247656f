pub mod Truths
pub mod Records
pub mod Tabled
pub mod Chosen
pub mod Judged
pub mod ByNames
pub mod ChoiceUnique
pub mod ChoiceBench
