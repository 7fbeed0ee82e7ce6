-- Ways that put what is late, one behind another.
use Rattle.std.proofs.Common.{◌≡◌, ◌∙◌, ◌≢◌, ◌⊎◌, ◌≤◌, ◌<◌, ◌+◌, ℕ, Bool, true, false, List, Some, None, length, refl, sym, subst, ap, inl, inr, arith}
use Rattle.std.specs.Prelude.{slice_get, slice_set, ◌==◌}
use Rattle.std.proofs.Math.ListN.{get_or}
use Rattle.std.proofs.lemmas.Bool.Decides.{nat_tests}
use Rattle.std.proofs.lemmas.List.{get_or-set_same, get_or-set_other, length-set}
use Rattle.std.proofs.lemmas.Option.{slice_get_cases, get_or_from_slice_get}
use Rattle.rr_threads.specs.declared.wires.Way.{Way}
use Rattle.rr_threads.specs.Ways.{IsPutLate, PutsLateBy}

-- so many of the ways have put what was late, and the others are as they were
pub record HaveSome (n : ℕ) (ws vs : List Way) : Type 0 where
  pub count : length vs ≡ length ws
  pub done : (p : ℕ) (d : Way) → p < n → IsPutLate (get_or ws p d) (get_or vs p d)
  pub rest : (p : ℕ) (d : Way) → n ≤ p → get_or vs p d ≡ get_or ws p d

same_place : (p n : ℕ) → (p == n) ≡ true → p ≡ n
same_place p n e = grind (arith, nat_tests)

other_place : (p n : ℕ) → (p == n) ≡ false → p ≢ n
other_place p n e = λ same. let s = same in grind (arith, nat_tests)

below : (p n : ℕ) → (p == n) ≡ false → p < n + 1 → p < n
below p n e few = grind (arith, nat_tests)

module _ (n : ℕ) (ws vs us : List Way) (a b : Way) (some : HaveSome n ws vs) (within : n < length vs) (is : slice_get vs n ≡ Some a) (late : IsPutLate a b) (then : us ≡ slice_set vs n b) where
  one_done : (p : ℕ) (d : Way) (t : Bool) → (p == n) ≡ t → p < n + 1 → IsPutLate (get_or ws p d) (get_or us p d)
  one_done p d true e few =
      let here : get_or us n d ≡ b = ap (λ (l : List Way). get_or l n d) then ∙ get_or-set_same vs n b d within in
      let before : get_or ws n d ≡ a = sym (some.rest n d (omega arith)) ∙ get_or_from_slice_get vs n a d is in
      subst (λ q. IsPutLate (get_or ws q d) (get_or us q d)) (sym (same_place p n e)) (subst (λ x. IsPutLate x (get_or us n d)) (sym before) (subst (λ x. IsPutLate a x) (sym here) late))
  one_done p d false e few =
      let same : get_or us p d ≡ get_or vs p d = ap (λ (l : List Way). get_or l p d) then ∙ get_or-set_other vs n p b d (other_place p n e) in
      subst (λ x. IsPutLate (get_or ws p d) x) (sym same) (some.done p d (below p n e few))

  put_one : HaveSome (n + 1) ws us
  put_one = record {
    count = ap length then ∙ length-set vs n b ∙ some.count;
    done = λ p d few. one_done p d (p == n) refl few;
    rest = λ p d past. (ap (λ (l : List Way). get_or l p d) then ∙ get_or-set_other vs n p b d (λ same. absurd (omega (arith, same, past))) ∙ some.rest p d (omega (arith, past)));
  }

-- one more way has
pub late_more : (n : ℕ) (ws vs us : List Way) → HaveSome n ws vs → n < length vs → PutsLateBy (slice_get vs n) n vs us → HaveSome (n + 1) ws us
late_more n ws vs us some within puts =
    elim ((slice_get_cases vs n).1) [
      | inl found ↦ (
          let a = found.0 in
          let did = subst (λ o. PutsLateBy o n vs us) found.2 puts in
          put_one n ws vs us a did.0 some within found.2 did.1 did.2)
      | inr past ↦ absurd (omega (arith, past.0, within))
    ]
