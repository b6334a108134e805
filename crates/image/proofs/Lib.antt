pub mod Parts
pub mod Lists
pub mod Meanings
pub mod Bytes
pub mod Saying
pub mod Answering
