pub mod Limits
pub mod Books
pub mod Counting
pub mod Candidates
pub mod Causes
pub mod Outcomes
pub mod Ranges
pub mod Laws
