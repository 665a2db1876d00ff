pub mod AtPoint
pub mod Chains
pub mod Held
pub mod Labels
pub mod Scratches
pub mod Storage
pub mod Tables
pub mod Values
