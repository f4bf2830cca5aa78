pub mod Lines
pub mod Measures
pub mod Readings
pub mod Refusals
pub mod Rules
pub mod Results
pub mod StateResults
pub mod Texts
