pub mod Digests
pub mod Replies
pub mod Instructions
pub mod Sessions
