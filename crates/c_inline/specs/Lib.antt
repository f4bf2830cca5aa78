pub mod Code
pub mod Making
pub mod Printed
pub mod Refusals
