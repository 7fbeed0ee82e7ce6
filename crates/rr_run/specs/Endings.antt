-- How a run has ended.
use Rattle.std.specs.Prelude.{Bool, true, false, Option, None, Some, Result, Ok, Err}
use Rattle.rr_types.specs.declared.refusal.Refusal.{Refusal}
use Rattle.rr_types.specs.declared.refusal.Refusal.TheVariants.{Device}

-- the refusal by which it has, if by one
abbrev pub refusal_of : {A : Type 0} → Result A Refusal → Option Refusal
refusal_of (Ok x) = None
refusal_of (Err e) = Some e

-- the refusal that a shell ends with: that of its run, or else a device that fails, where the folder of a node has left its place
abbrev pub refusal_behind : Option Refusal → Bool → Option Refusal
refusal_behind (Some e) moved = Some e
refusal_behind None true = Some Device
refusal_behind None false = None
