pub mod Graph
pub mod Search
pub mod Parts
pub mod Topological
pub mod Deepening
