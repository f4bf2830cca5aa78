-- Private: what only contracts of this crate cite.
pub mod Trials
pub mod Control
pub mod Goings
pub mod Marking
pub mod Used
pub mod Fed
pub mod Stacks
pub mod Lists
pub mod Places
pub mod Pending
