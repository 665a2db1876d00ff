pub mod OrderedField
pub mod Ranges
pub mod Rational
