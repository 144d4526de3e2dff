-- Laws of the programs' text.
pub mod Digits
pub mod Putting
pub mod Lines
pub mod Boards
pub mod Listings
pub mod Plans
pub mod ColumnLines
pub mod Sheets
pub mod Printed
