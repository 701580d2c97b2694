pub mod Step
pub mod Moves
pub mod Values
pub mod Found
pub mod Routes
pub mod Returns
pub mod Units
pub mod Numbers
pub mod OneAnswer
pub mod ToldNumbers
pub mod AnswerLaws
mod Examples
