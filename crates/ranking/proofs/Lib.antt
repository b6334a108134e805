pub mod Insertion
pub mod Orders
pub mod Listed
pub mod Ranks
pub mod Stays
pub mod Removal
