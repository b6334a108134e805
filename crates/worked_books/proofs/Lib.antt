pub mod Deciding
pub mod Checked
