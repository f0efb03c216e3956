pub mod Unread
pub mod Marks
pub mod Tallied
pub mod Store
pub mod Lent
