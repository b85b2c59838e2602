pub mod Terms
pub mod RowFacts
pub mod Lacks
pub mod Serving
pub mod Settlement
pub mod Weights
pub mod Closure
