pub mod Numbers
pub mod Reading
pub mod Follow
pub mod Laws
