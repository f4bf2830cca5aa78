pub mod CommandLemmas
pub mod ConfirmLemmas
pub mod DelayLemmas
pub mod Fronts
pub mod ItemLemmas
pub mod Moves
