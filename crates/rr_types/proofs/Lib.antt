pub mod NodeLemmas
pub mod PartLemmas
pub mod ShortLemmas
pub mod StandingLemmas
