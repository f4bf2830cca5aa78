pub mod Counts
pub mod Inlined
pub mod Lawful
pub mod Laws
pub mod Meanings
pub mod Texts
pub mod Worked
