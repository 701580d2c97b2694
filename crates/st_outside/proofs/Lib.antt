pub mod EntryLemmas
pub mod StateLaws
