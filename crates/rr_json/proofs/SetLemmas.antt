-- The digits of a set that has members.
use Rattle.std.proofs.Common.{◌≡◌, ℕ, zero, suc, refl}
use Rattle.rr_text.specs.Words.{set_text, member_digits}

pub set_digits : (s : ℕ) → (s ≡ 0 → ⊥) → set_text s ≡ member_digits 0 7 s
set_digits zero some = absurd (some refl)
set_digits (suc s) some = refl
