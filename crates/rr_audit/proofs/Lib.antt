pub mod SameLemmas
pub mod Alike
pub mod TapeRuns
pub mod Follows
pub mod Going
pub mod ReadLaws
