pub mod CornerLaws
pub mod FoldLaws
pub mod OverlapLaws
pub mod PassLaws
pub mod PointLaws
pub mod ResultLaws
pub mod SetLaws
pub mod TargetLaws
