pub mod Asked
pub mod Puts
pub mod Runs
pub mod Named
pub mod Reads
pub mod Headline
