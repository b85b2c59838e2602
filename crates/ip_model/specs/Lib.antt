pub mod Sums
pub mod Limits
pub mod Points
pub mod Fractions
pub mod Rule
pub mod Programs
pub mod Choices
