pub mod Rules
pub mod Listing
pub mod Tally
pub mod List
pub mod Special
pub mod Entries
pub mod Inner
