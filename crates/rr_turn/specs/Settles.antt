-- What follows a turn of a flusher or of a publisher.
use Rattle.std.specs.Prelude.{Bool, true, false, Result, Ok, Err}
use Rattle.rr_types.specs.declared.refusal.Refusal.{Refusal}
use Rattle.rr_turn.specs.Asked.{Call, goes_on, rests_aside, fails}

-- the next turn, behind a rest where there was nothing to do; or the end of the run by this refusal
abbrev pub settles : Result Bool Refusal → Call
settles (Ok true) = goes_on
settles (Ok false) = rests_aside
settles (Err refusal) = fails refusal
