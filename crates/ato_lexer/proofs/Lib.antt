pub mod Computing
pub mod CoverLaws
mod CutLaws
mod FaultRows
pub mod FileLaws
pub mod FirstPieces
mod KeywordLemmas
mod LevelLaws
pub mod LevelPuts
mod LineRows
mod MarkReach
mod NumberLemmas
mod OrderLaws
pub mod PutLaws
mod ReachLaws
mod ReadingLaws
pub mod ReadingLemmas
pub mod ScanLaws
mod SliceLaws
mod StringReach
pub mod TokenLaws
mod TokenRows
pub mod WalkLaws
pub mod WideLaws
mod WideRows
