pub mod Laws
pub mod Operations
