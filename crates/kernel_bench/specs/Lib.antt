pub mod Benches
pub mod Drawn
pub mod Histogram
pub mod Summaries
pub mod Worked
