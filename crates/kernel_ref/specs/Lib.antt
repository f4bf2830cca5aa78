pub mod Texts
pub mod Results
pub mod Refusals
pub mod Answers
pub mod Laws
pub mod Faults
