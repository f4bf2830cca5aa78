pub mod DigitLemmas
pub mod ReadLemmas
pub mod PatternLemmas
pub mod NameLemmas
pub mod WrittenLemmas
