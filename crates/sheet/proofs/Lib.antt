-- Laws of the operations over a sheet.
pub mod Entered
pub mod ReadColumns
pub mod ReadSheets
pub mod LookSheets
pub mod Checks
pub mod BoardLaws
pub mod Endings
pub mod Unique
pub mod Passing
pub mod Tallies
