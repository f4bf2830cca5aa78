-- Private: what only contracts of this crate cite.
pub mod Words
pub mod Drafts
