pub mod Netlists
pub mod PartsLists
pub mod PartsLaws
pub mod CsvWriters
