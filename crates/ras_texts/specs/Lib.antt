pub mod Names
pub mod Verdicts
pub mod Notes
pub mod Samples
pub mod Sets
