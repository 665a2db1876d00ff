pub mod Decides
pub mod Searching
