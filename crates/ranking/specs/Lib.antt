pub mod Ranked
pub mod Entries
pub mod Laws
pub mod Texts
