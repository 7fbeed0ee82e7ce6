-- The words of events: six letters and more, and fewer.
use Rattle.std.proofs.Common.{◌≡◌, ℕ, ◌<◌, ◌≤◌, false, List, [], ◌∷◌, length, codes, refl, ap, arith}
use Rattle.std.specs.Str.{bytes_eq}
use Rattle.rr_text.specs.declared.kind.EventKind.TheVariants.{Submit, Hear, Suspect, Tick, Advance, Take, Device, Fail, Mark, Send, Ack, Snap, Crash, Restart}
use Rattle.rr_types.specs.Commands.{find_by}
use Rattle.rr_text.specs.Reading.{keyword_text, keyword_at}
use Rattle.rr_text.proofs.WordReading.{other_text}

-- words of two lengths are two
apart : (w v : List ℕ) → (length w ≡ length v → ⊥) → bytes_eq w v ≡ false
apart w v h = other_text w v (λ e. h (ap length e))

pub long_words : (w : List ℕ) → 5 < length w → find_by keyword_text w (Submit ∷ Suspect ∷ Advance ∷ Restart ∷ []) ≡ keyword_at w
long_words w lt =
    rw (
      apart w (codes "hear") (λ e. omega arith),
      apart w (codes "tick") (λ e. omega arith),
      apart w (codes "take") (λ e. omega arith),
      apart w (codes "dev") (λ e. omega arith),
      apart w (codes "fail") (λ e. omega arith),
      apart w (codes "mark") (λ e. omega arith),
      apart w (codes "send") (λ e. omega arith),
      apart w (codes "ack") (λ e. omega arith),
      apart w (codes "snap") (λ e. omega arith),
      apart w (codes "crash") (λ e. omega arith),
    ) refl

pub short_words : (w : List ℕ) → length w ≤ 5 → find_by keyword_text w (Hear ∷ Tick ∷ Take ∷ Device ∷ Fail ∷ Mark ∷ Send ∷ Ack ∷ Snap ∷ Crash ∷ []) ≡ keyword_at w
short_words w le =
    rw (
      apart w (codes "submit") (λ e. omega arith),
      apart w (codes "suspect") (λ e. omega arith),
      apart w (codes "advance") (λ e. omega arith),
      apart w (codes "restart") (λ e. omega arith),
    ) refl
