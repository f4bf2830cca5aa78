pub mod Values
pub mod Follows
pub mod Runs
pub mod Passing
pub mod Past
pub mod Remade
pub mod Weights
