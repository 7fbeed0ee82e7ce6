-- The time between two ticks of a node, in nanoseconds.
use Rattle.std.specs.Prelude.{◌≡◌, ◌⊎◌, ◌*◌, ℕ, Option, None, Some}
use Rattle.clap.specs.Words.{Text}
use Rattle.rr_cli.specs.Randoms.{IsNumberIn}

-- 50 milliseconds
abbrev pub usual_nanos : ℕ
usual_nanos = 50000000

-- the time that a word names by its milliseconds, from 10 to 10000; the usual time where there is no word, or one that names none
abbrev pub IsTickBy : Option Text → ℕ → Type 0
IsTickBy None t = t ≡ usual_nanos
IsTickBy (Some word) t =
    ((ms : ℕ) × IsNumberIn 10 10000 word ms × (t ≡ ms * 1000000)) ⊎ (((ms : ℕ) → IsNumberIn 10 10000 word ms → ⊥) × (t ≡ usual_nanos))
