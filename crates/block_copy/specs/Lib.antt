pub mod Nonconstants
pub mod Growing
pub mod Searches
pub mod Copied
pub mod Fits
pub mod Laws
