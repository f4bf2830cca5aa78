pub mod Stored
pub mod Sizes
pub mod Ordered
