pub mod Ranges
pub mod Blinds
pub mod Security
pub mod Laws
pub mod Same
