pub mod Text
pub mod Lines
pub mod Pens
pub mod Listing
pub mod Steps
pub mod Gathered
pub mod Laws
pub mod Known
