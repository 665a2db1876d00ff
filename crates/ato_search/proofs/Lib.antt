pub mod FailingLemmas
pub mod SearchLemmas
