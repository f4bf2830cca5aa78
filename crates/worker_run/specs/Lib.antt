pub mod Crews
pub mod Gathers
pub mod Reports
pub mod private
