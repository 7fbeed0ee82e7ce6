-- The fault that a second reading of a text finds, and the line that tells it.
use Rattle.std.specs.Prelude.{◌≡◌, ℕ, List, [], ◌∷◌, ◌++◌, codes, Option, None, Some, IsSomeAnd}
use Rattle.rr_types.specs.declared.refusal.Refusal.{Refusal}
use Rattle.rr_types.specs.declared.refusal.Refusal.TheVariants.{BadNodes, BadEvent}
use Rattle.rr_explain.specs.declared.fault.Fault.{Fault}
use Rattle.rr_explain.specs.declared.fault.Kind.{Kind}
use Rattle.rr_explain.specs.declared.fault.Kind.TheVariants.{Word, Missing, Said}
use Rattle.rr_explain.specs.Faults.{shown, line_at, AreOn, fault_line}

-- the words on what is wrong
abbrev pub kind_words : Kind → List ℕ
kind_words (Word word called expected) = codes "no " ++ called.now ++ 32 ∷ 34 ∷ shown word.now ++ 34 ∷ codes "; expected " ++ expected.now
kind_words (Missing called expected) = codes "the line ends without its " ++ called.now ++ codes "; expected " ++ expected.now
kind_words (Said words) = words.now

-- what is printed of the fault, or of none
abbrev pub found_text : List ℕ → Option Fault → List ℕ
found_text name None = []
found_text name (Some fault) = fault_line name fault.line fault.column (kind_words fault.kind)

-- a fault of this line, which has this number
pub record IsFaultOf (line : List ℕ) (number : ℕ) (fault : Fault) : Type 0 where
  pub same : fault.line ≡ number
  pub on : AreOn line fault.column (kind_words fault.kind)

-- what is found where these bytes are refused as a schedule or a tape
abbrev pub IsFound : List ℕ → Refusal → Option Fault → Type 0
IsFound bytes BadNodes found = IsSomeAnd found (IsFaultOf (line_at 1 bytes) 1)
IsFound bytes (BadEvent number) found = IsSomeAnd found (IsFaultOf (line_at number bytes) number)
IsFound bytes _ found = found ≡ None

-- the rest stands at the end of the line
abbrev pub EndsWith : List ℕ → List ℕ → Type 0
EndsWith line rest = (done : List ℕ) × (line ≡ done ++ rest)
