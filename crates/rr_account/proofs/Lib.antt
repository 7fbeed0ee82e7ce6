pub mod ExplanationLemmas
pub mod ShareLaws
pub mod StepLaws
pub mod TextLemmas
mod WatchLaws
pub mod TapeLaws
pub mod DifferenceLemmas
pub mod HeardLaws
pub mod PageLaws
