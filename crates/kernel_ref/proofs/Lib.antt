pub mod AnswerLemmas
pub mod OneAnswer
