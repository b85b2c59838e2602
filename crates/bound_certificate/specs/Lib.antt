pub mod Rising
pub mod Bound
pub mod Trees
pub mod Pending
pub mod Rule
pub mod Shown
