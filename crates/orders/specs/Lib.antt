pub mod Orders
pub mod Rows
pub mod Records
pub mod Tables
pub mod Laws
pub mod Rankings
pub mod RankingLaws
