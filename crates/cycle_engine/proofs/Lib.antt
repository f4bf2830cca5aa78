pub mod BeforeLemmas
pub mod RousingLemmas
pub mod DateLemmas
pub mod BoundLemmas
pub mod WorkedLemmas
pub mod OwnLemmas
pub mod JoinLemmas
pub mod PlaceLemmas
mod QuietLemmas
mod QueueTurnLemmas
mod TurnLemmas
mod ServeLemmas
mod ControlLemmas
mod StepLemmas
mod SendLemmas
mod FromLemmas
mod RunLemmas
mod UsedLemmas
mod FedLemmas
mod FeedLemmas
mod MakeLemmas
mod StartLemmas
mod MarkLemmas
mod NoteLemmas
mod CellLemmas
mod NextLemmas
mod ExecLemmas
pub mod FollowLemmas
mod GoLemmas
mod UnitTurnLemmas
mod SwapLemmas
pub mod SameLemmas
mod TokenLemmas
mod ShutLemmas
mod PendingLemmas
