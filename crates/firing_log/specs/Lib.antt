pub mod Families
pub mod Kept
pub mod Made
