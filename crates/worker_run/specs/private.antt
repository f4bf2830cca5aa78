-- Private: what only contracts of this crate cite.
pub mod Orders
pub mod Settlings
pub mod Makings
pub mod Sweepings
pub mod Handings
