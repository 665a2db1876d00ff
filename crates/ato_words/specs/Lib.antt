pub mod PlainNames
pub mod Words
pub mod WordLines
