pub mod Determined
pub mod Fitting
pub mod Going
pub mod Marks
pub mod Numerals
pub mod Places
pub mod Searches
pub mod SpellsExample
