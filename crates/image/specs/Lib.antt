pub mod Limits
pub mod Words
pub mod Entries
pub mod Images
pub mod Readers
pub mod Answers
pub mod Numbers
