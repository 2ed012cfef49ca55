pub mod Ranges
pub mod Climate
pub mod Rain
pub mod Meter
pub mod Laws
pub mod Same
pub mod Signed
