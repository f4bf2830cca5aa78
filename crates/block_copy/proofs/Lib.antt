pub mod Joining
pub mod Standing
pub mod CopiedPasses
pub mod StepCounts
pub mod Weighing
pub mod Following
pub mod Keeping
pub mod Finding
