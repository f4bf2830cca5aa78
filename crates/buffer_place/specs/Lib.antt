pub mod Timings
pub mod Chains
pub mod Placing
pub mod Edges
pub mod Cuts
