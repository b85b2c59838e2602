pub mod HomesLemmas
pub mod LinesLemmas
pub mod RegionLemmas
pub mod BoundsLemmas
