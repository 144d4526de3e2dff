-- Laws of words of 64 bits that the functions here use; rank and select undo each other; one possible answer.
pub mod Ends
pub mod Near
pub mod Counts
pub mod Halves
pub mod Asked
pub mod Ranking
pub mod Finding
pub mod Selecting
pub mod Unique
pub mod Laws
