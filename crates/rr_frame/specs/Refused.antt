-- The refusals of decoding.
use Rattle.std.specs.Prelude.{ℕ, ◌-◌, Result, Ok, Err}
use Rattle.rr_types.specs.declared.refusal.Refusal.{Refusal}
use Rattle.rr_types.specs.declared.refusal.Refusal.TheVariants as refusals
use Rattle.rr_frame.specs.declared.stop.Stop.{Stop}
use Rattle.rr_frame.specs.declared.stop.Stop.TheVariants as stops

-- the refusal of so many bytes whose reading stopped so
abbrev pub refusal_of : ℕ → Stop → Refusal
refusal_of all stops.OutOfMemory = refusals.OutOfMemory
refusal_of all (stops.Malformed f) = refusals.Malformed (all - f.left)

-- the answer of a decoder that takes no memory
abbrev pub answer_of : {A : Type 0} → Result A ℕ → Result A Refusal
answer_of (Ok x) = Ok x
answer_of (Err offset) = Err (refusals.Malformed offset)
