pub mod Trimming
pub mod Shares
pub mod Laws
pub mod Code
pub mod Sample
