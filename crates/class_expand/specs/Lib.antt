pub mod Lifting
pub mod Laws
pub mod PhaseLaws
pub mod Dealing
