pub mod HullLaws
pub mod OneBadLine
pub mod PickLemmas
pub mod SelectedLaws
pub mod TreeLines
pub mod WholeLemmas
