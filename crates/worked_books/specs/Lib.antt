pub mod Table
pub mod Bytes
