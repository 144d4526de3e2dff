-- The codes' laws in one place, and what each walk over units knows.
pub mod Numbered
pub mod Stretches
pub mod Lookings
pub mod Totals
pub mod Readings
pub mod Seeks
