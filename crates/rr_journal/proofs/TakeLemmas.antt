-- Taking facts on, one after the other.
use Rattle.std.proofs.Common.{◌≡◌, ℕ, zero, suc, ◌+◌, ◌<◌, true, false, List, [], ◌∷◌, length, get_or, drop, refl, arith}
use Rattle.rr_types.specs.declared.fact.Fact.{Fact}
use Rattle.rr_types.specs.declared.promise.Entry.{Entry}
use Rattle.rr_types.specs.Standings.{fits}
use Rattle.rr_types.specs.Promises.{standing_in, take_on, take_on_all, all_fit}
use Rattle.rr_types.specs.Facts.{instance_of}

pub fit_on : (n p i : ℕ) (es : List Entry) (fs : List Fact) (d : Fact) → i < length fs → fits n p (standing_in es (instance_of (get_or fs i d))) (get_or fs i d) ≡ true → all_fit n p es (drop i fs) ≡ all_fit n p (take_on es (get_or fs i d)) (drop (i + 1) fs)
fit_on n p i es [] d lt h = absurd (omega arith)
fit_on n p zero es (f ∷ fs) d lt h = rw h refl
fit_on n p (suc i) es (f ∷ fs) d lt h =
    let e : suc i + 1 ≡ suc (i + 1) = omega arith in
    rw e (fit_on n p i es fs d (omega arith) h)

pub fit_off : (n p i : ℕ) (es : List Entry) (fs : List Fact) (d : Fact) → i < length fs → fits n p (standing_in es (instance_of (get_or fs i d))) (get_or fs i d) ≡ false → all_fit n p es (drop i fs) ≡ false
fit_off n p i es [] d lt h = absurd (omega arith)
fit_off n p zero es (f ∷ fs) d lt h = rw h refl
fit_off n p (suc i) es (f ∷ fs) d lt h = fit_off n p i es fs d (omega arith) h

pub taken_on : (i : ℕ) (es : List Entry) (fs : List Fact) (d : Fact) → i < length fs → take_on_all es (drop i fs) ≡ take_on_all (take_on es (get_or fs i d)) (drop (i + 1) fs)
taken_on i es [] d lt = absurd (omega arith)
taken_on zero es (f ∷ fs) d lt = refl
taken_on (suc i) es (f ∷ fs) d lt =
    let e : suc i + 1 ≡ suc (i + 1) = omega arith in
    rw e (taken_on i es fs d (omega arith))
