pub mod Sorts
pub mod One
