pub mod RunLemmas
pub mod ReplayLemmas
pub mod LawLemmas
pub mod OneRuns
pub mod ToldLemmas
pub mod SaveLemmas
pub mod ResumeLemmas
pub mod ShowLemmas
