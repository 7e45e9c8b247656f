pub mod Laws
pub mod Digits
pub mod Packing
pub mod Window
pub mod Laying
pub mod Unique
