pub mod Bodies
pub mod Fits
pub mod Pieces
pub mod Reads
pub mod Refusals
pub mod Texts
