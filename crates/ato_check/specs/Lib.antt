pub mod Checks
pub mod FirstBad
pub mod Hulls
pub mod Parts
