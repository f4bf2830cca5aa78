mod Counted
mod Derived
pub mod Filling
mod Lexing
mod Reading
mod Resting
mod Rounds
mod Typed
