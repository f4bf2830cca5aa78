pub mod Cursors
pub mod Refusals
pub mod Turns
