pub mod PathLemmas
pub mod FollowLemmas
pub mod WayLemmas
pub mod EndLemmas
pub mod NumberLemmas
pub mod ActLemmas
pub mod ScheduleLemmas
