-- Laws of the table, and of columns taken in turn.
pub mod InTurn
pub mod Lists
pub mod EntryFormat
pub mod Slots
pub mod Columns
pub mod Assembled
pub mod Sounds
pub mod EntryLaws
pub mod RuleLaws
pub mod ColumnLaws
pub mod Unique
