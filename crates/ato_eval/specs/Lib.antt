pub mod Corners
pub mod Intervals
pub mod Judgements
pub mod Kept
pub mod Plain
pub mod Reaches
pub mod Sides
pub mod Wanted
