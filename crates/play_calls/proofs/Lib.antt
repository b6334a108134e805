pub mod Folds
pub mod Lines
