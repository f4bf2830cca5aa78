-- Private: what only contracts of this crate cite.
pub mod Sents
pub mod Moves
pub mod Openings
pub mod Restores
pub mod Searches
pub mod Channels
pub mod Exchanges
