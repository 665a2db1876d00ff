pub mod PlainNameLemmas
pub mod WordLaws
pub mod WordLemmas
pub mod Examples
pub mod WordLineLaws
