pub mod Tallies
pub mod Posts
pub mod Histories
pub mod Laws
pub mod Runs
pub mod Played
