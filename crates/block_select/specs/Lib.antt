pub mod Arms
pub mod Choices
pub mod Selected
pub mod Light
pub mod Sample
pub mod Laws
