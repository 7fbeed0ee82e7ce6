-- By which refusals a tape may lack an event.
use Rattle.std.specs.Prelude.{Bool, true, false}
use Rattle.rr_types.specs.declared.refusal.Refusal.{Refusal}
use Rattle.rr_types.specs.declared.refusal.Refusal.TheVariants.{OutOfMemory, BadEvent}

-- an event that is refused so may have been made, and have no place on the tape
abbrev pub may_lack : Refusal → Bool
may_lack OutOfMemory = true
may_lack (BadEvent number) = true
may_lack _ = false
