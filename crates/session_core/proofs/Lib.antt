mod StandIns
mod Stepping
mod Decisions
mod Searches
mod Keeping
mod LineAnswers
mod Told
mod Choices
mod Flaws
mod Explained
pub mod Words
pub mod OneLine
pub mod Taking
pub mod OneReset
pub mod Cycling
pub mod Edging
pub mod OneTelling
pub mod OneSearch
pub mod Answering
pub mod Ending
mod AlongSession
mod EdgeLines
pub mod Existing
pub mod ExistingLines
pub mod PlanTexts
