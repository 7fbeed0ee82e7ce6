pub mod EndLemmas
pub mod ShowLemmas
pub mod TapeLemmas
pub mod TapedLemmas
pub mod CutLemmas
pub mod SweepLemmas
pub mod RandomLemmas
pub mod ReadLemmas
pub mod MigrateLemmas
mod WordLaws
pub mod FolderLemmas
mod PageLaws
