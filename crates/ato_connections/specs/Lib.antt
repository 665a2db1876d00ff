pub mod Given
pub mod Linking
pub mod Members
pub mod NodeLinks
pub mod Outcome
pub mod Placing
