pub mod Texts
pub mod Files
pub mod Runs
pub mod Solves
