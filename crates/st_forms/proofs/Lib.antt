pub mod AnswerLaws
pub mod Choices
pub mod Cutting
pub mod DateCuts
pub mod DateForms
mod Examples
pub mod Numbers
pub mod ReadingCuts
pub mod ReadingForms
pub mod Tails
pub mod TimeLaws
pub mod Values
