-- The laws that tie a plan's bytes to its tree, for every crate that goes by a plan; what the functions here use; one possible answer.
pub mod PlanLaws
pub mod StageLaws
pub mod TreeLaws
pub mod FrontLaws
pub mod Unique
