pub mod Code
pub mod Expand
pub mod Forms
pub mod Kernels
pub mod Shares
