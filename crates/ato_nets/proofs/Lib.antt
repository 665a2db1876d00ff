pub mod ClassNumberLaws
pub mod DistinctLaws
pub mod FloodLemmas
pub mod GroupLemmas
pub mod RowLemmas
