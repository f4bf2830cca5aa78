pub mod SearchLemmas
pub mod RowLemmas
pub mod PartLemmas
pub mod TopologicalLemmas
