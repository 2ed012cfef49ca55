pub mod Ranges
pub mod Transmitter
pub mod Interface
pub mod Mode
pub mod Laws
pub mod Same
