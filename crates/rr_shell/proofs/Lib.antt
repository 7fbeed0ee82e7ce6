mod TextLemmas
mod HearingLemmas
mod TalkLemmas
mod WatchLemmas
