mod BoardLemmas
mod LeftLemmas
mod NewsLemmas
mod PieceLemmas
mod ReplacingLemmas
mod ShellLemmas
mod SyncLemmas
mod ToldLemmas
