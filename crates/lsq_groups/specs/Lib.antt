pub mod Stores
pub mod Order
