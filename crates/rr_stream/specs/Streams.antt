-- What is known of the streams on which a program prints and from which it reads.
use Rattle.std.specs.Prelude.{◌≡◌, ℕ, Bool, true, List, ◌++◌, Option, None, Some, ⊤}
use Rattle.std.specs.Io.KnownBytes.{Appends}

-- a stream that is printed on: the bytes that it has taken, where they are known, how many of its calls failed, and
-- whether all that it has taken is flushed
pub record Printing : Type 0 where
  pub contents : Option (List ℕ)
  pub faults : ℕ
  pub flushed : Bool

-- a stream that is read: the bytes that it has left, where they are known, and how many of its calls failed
pub record Reading : Type 0 where
  pub remaining : Option (List ℕ)
  pub faults : ℕ

-- a stream has taken a text, and it is flushed
abbrev pub IsPrinted : Printing → Printing → List ℕ → Type 0
IsPrinted old new text = Appends old.contents new.contents text × (new.flushed ≡ true)

-- a stream has taken the front of a text, and no more of it
abbrev pub IsFrontPrinted : Printing → Printing → List ℕ → Type 0
IsFrontPrinted old new text = (front : List ℕ) × (rest : List ℕ) × (text ≡ front ++ rest) × Appends old.contents new.contents front

-- the bytes are all that a stream had left, where that is known
abbrev pub AreAllOf : Option (List ℕ) → List ℕ → Type 0
AreAllOf None bytes = ⊤
AreAllOf (Some all) bytes = bytes ≡ all
