pub mod Below
pub mod ByOperation
pub mod Exact
pub mod Examples
pub mod Ranges
pub mod Residues
pub mod Sums
pub mod Words
