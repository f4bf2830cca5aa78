pub mod GoLemmas
pub mod RightLemmas
pub mod RefusedLemmas
pub mod InterpretedLemmas
pub mod OneGo
pub mod PrintedLemmas
