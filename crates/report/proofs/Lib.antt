pub mod Widths
pub mod Filled
