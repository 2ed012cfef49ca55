pub mod Numbers
pub mod Data
pub mod EachKind
pub mod ReadBack
pub mod One
