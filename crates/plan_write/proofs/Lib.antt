-- The steps of writing by a plan, over plain lists and numbers.
pub mod Steps
