pub mod EdgeLemmas
pub mod LevelLemmas
pub mod TimedLemmas
pub mod DepthLemmas
pub mod OneLemmas
pub mod NeedLemmas
pub mod PlaceLemmas
