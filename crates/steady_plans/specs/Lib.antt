pub mod Steady
pub mod Tables
pub mod Tried
pub mod Local
pub mod Laws
