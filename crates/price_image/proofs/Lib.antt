pub mod Taken
pub mod Window
