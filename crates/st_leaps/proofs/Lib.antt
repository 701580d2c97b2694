pub mod Days
pub mod LabelLaws
pub mod CountLaws
pub mod Lengths
pub mod Casts
pub mod Machine
pub mod Decimals
pub mod NumberLaws
pub mod FaultLaws
pub mod AnswerLaws
mod Examples
