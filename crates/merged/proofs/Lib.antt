pub mod Wording
pub mod LineByLine
pub mod Packing
pub mod EntriesRead
pub mod Merges
pub mod Answers
pub mod ReadBack
