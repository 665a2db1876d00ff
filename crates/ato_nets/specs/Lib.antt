pub mod ClassNumbers
pub mod Distinct
pub mod Flooding
pub mod Groups
