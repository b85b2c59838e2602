pub mod ShapesLemmas
pub mod LimitsLemmas
pub mod ReadLemmas
