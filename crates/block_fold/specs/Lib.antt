pub mod Numbers
pub mod Puts
pub mod Addresses
pub mod Jumps
pub mod Simplified
pub mod Folded
pub mod Laws
pub mod Code
