-- The exchange that adds a command keeps the rule of the list.
use Rattle.std.proofs.Common.{◌≡◌, ℕ, ◌+◌, ◌<◌, ◌==◌, Bool, true, false, List, [], ◌∷◌, ◌++◌, length, refl, ap, sym, subst, arith, inl, length-append, None}
use Rattle.std.proofs.lemmas.List.{append-nil}
use Rattle.std.proofs.lemmas.Bool.Decides.{nat_tests}
use mathlib.Core.List.{IsPrefix}
use prog.Atomic.{either}
use Rattle.logbook.specs.Pages.{Cell, cell, keeps, no_nib, step, Moves, Goes}
use Rattle.rr_types.specs.declared.command.Command.{Command}
use Rattle.rr_window.specs.Lists.{IsCounted, Adds}
use Rattle.rr_window.proofs.Beginnings.{whole_beginning}

abbrev pub shown : List Command → List Command
shown list = []

abbrev pub moved : List Command → List Command → ℕ → Type 0
moved xs ys n = Unit {0}

pub adds_goes : (list v : List Command) (c : Command) (old : ℕ) → length v ≡ old → IsPrefix v list
    → (b : Bool) → (length list == old) ≡ b
    → Goes IsCounted shown moved 0 (v, (no_nib, None)) (λ n. either (n == old) (old + 1) n) (Adds (step 0 old (old + 1) c) (v, (no_nib, None))) ((length list, true) ∷ (0, true) ∷ []) list
adds_goes list v c old len pre true is =
    let here : length list ≡ old = grind (arith, nat_tests) in
    let same : v ≡ list = whole_beginning v list pre (omega arith) in
    let n : either (length list == old) (old + 1) (length list) ≡ length (list ++ c ∷ []) = rw is (omega (arith, length-append list (c ∷ []))) in (
      keeps,
      c ∷ [],
      None,
      tt,
      ap (λ (k : ℕ). (k, true) ∷ (0, true) ∷ []) n,
      inl (refl, refl),
      rw is (ap (λ w. w ++ c ∷ []) (sym same)),
    )
adds_goes list v c old len pre false is =
    let all : list ++ [] ≡ list = append-nil list in
    let n : either (length list == old) (old + 1) (length list) ≡ length (list ++ []) = rw is (ap length (sym all)) in (
      keeps,
      [],
      None,
      tt,
      ap (λ (k : ℕ). (k, true) ∷ (0, true) ∷ []) n,
      inl (refl, refl),
      rw is (ap length all),
    )

-- whatever the list is, the exchange adds the command to all that was seen, or finds that the list is longer
pub adds_moves : (v : List Command) (c : Command) (old : ℕ) → length v ≡ old
    → Moves IsCounted shown moved 0 (v, (no_nib, None)) (λ n. either (n == old) (old + 1) n) (Adds (step 0 old (old + 1) c) (v, (no_nib, None)))
adds_moves v c old len cs list counted pre away =
    let P : List Cell → Type 0 = λ cells. (0 < length cells) × ((cell cells 0).1 ≡ true) × Goes IsCounted shown moved 0 (v, (no_nib, None)) (λ n. either (n == old) (old + 1) n) (Adds (step 0 old (old + 1) c) (v, (no_nib, None))) cells list in
    subst P (sym counted) (omega arith, refl, adds_goes list v c old len pre (length list == old) refl)
