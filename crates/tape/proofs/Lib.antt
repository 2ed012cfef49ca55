pub mod Lists
pub mod Grow
pub mod Unique
pub mod Steps
pub mod Exists
pub mod Theorems
pub mod Tapes
