mod ResumeLemmas
mod StateFits
mod QueueFits
mod RowFits
mod FitLemmas
mod FormLemmas
mod RunLemmas
pub mod Printed
pub mod Whole
pub mod Agrees
pub mod Frames
pub mod Keys
pub mod Spelt
pub mod Slims
pub mod Readers
pub mod Stages1
pub mod Stages2
pub mod Stages3
pub mod Stages4
pub mod Stages5
pub mod Stages6
pub mod Steps
pub mod Blanks
pub mod FullLines
pub mod InnerLines
pub mod Progress
pub mod OnlyAnswers
pub mod OneTexts
pub mod Turns
pub mod ExitLemmas
pub mod EntriesLemmas
pub mod EntryLemmas
pub mod ForkLemmas
pub mod NumberedLemmas
pub mod TextLemmas
