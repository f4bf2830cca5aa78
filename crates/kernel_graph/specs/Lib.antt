pub mod Targets
pub mod Optimized
pub mod Composed
pub mod Laws
pub mod Worked
pub mod Shares
