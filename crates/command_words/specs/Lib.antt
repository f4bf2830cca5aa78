pub mod Commands
pub mod Items
pub mod Steps
pub mod Tables
pub mod Values
