pub mod NetlistLemmas
pub mod PartsLemmas
pub mod ReadLemmas
