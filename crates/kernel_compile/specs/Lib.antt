pub mod Compiling
pub mod Goods
pub mod Layers
pub mod Targets
