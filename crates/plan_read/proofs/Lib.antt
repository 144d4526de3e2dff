-- The steps of reading by a plan, over plain lists and numbers.
pub mod Steps
