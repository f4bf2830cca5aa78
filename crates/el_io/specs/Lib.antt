pub mod Hosts
pub mod Memories
pub mod Outside
