pub mod Fits
pub mod Resumes
pub mod Laws
pub mod Texts
pub mod Refusals
pub mod private
