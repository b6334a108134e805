pub mod Memories
pub mod Desks
pub mod Depths
