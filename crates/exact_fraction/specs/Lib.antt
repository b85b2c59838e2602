pub mod Sizes
pub mod Exact
pub mod Laws
