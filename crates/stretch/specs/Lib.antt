pub mod Tokens
pub mod Handed
pub mod Laws
