pub mod Shares
pub mod Allotment
pub mod Owed
pub mod Tickets
pub mod Closes
pub mod Laws
