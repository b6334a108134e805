pub mod Rests
pub mod Sweeps
pub mod Handing
pub mod Conserved
pub mod Ranks
