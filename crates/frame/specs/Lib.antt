pub mod Faults
pub mod Fields
pub mod Model
pub mod Frames
pub mod Same
