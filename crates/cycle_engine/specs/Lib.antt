pub mod Cycles
pub mod Rousing
pub mod Bounds
pub mod Worked
pub mod Cuts
pub mod Joins
pub mod Timings
pub mod private
