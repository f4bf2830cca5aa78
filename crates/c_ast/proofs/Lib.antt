pub mod CastNodes
pub mod Keys
pub mod NodeEquations
pub mod TokensExample
pub mod TypedNodeEquations
