pub mod ClassLaws
pub mod JoinedLaws
pub mod StageLaws
pub mod NameTableLaws
pub mod Tables
