pub mod Fitting
pub mod Shares
pub mod Blocks
pub mod Laws
