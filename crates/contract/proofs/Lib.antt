pub mod Absent
pub mod Laws
pub mod Telling
pub mod Writing
pub mod Reading
