pub mod Spelled
pub mod Whole
pub mod Checked
pub mod Onto
