pub mod DateParts
mod Examples
pub mod FoundClock
pub mod HasLines
pub mod JobLaws
pub mod LabelLaws
pub mod LabelReads
pub mod ReadLaws
pub mod SummaryLaws
