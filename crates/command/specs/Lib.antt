pub mod Sendable
pub mod Orders
pub mod Commands
pub mod Startup
pub mod Laws
pub mod Kinds
