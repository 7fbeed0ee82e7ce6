use Rattle.std.proofs.Common.{◌≡◌, ℕ, ◌+◌, ◌<◌, List, length, get_or, set, refl, sym, ◌∙◌, subst, arith, get_or-set_same, get_or-set_other}
use Rattle.std.specs.Prelude.{Bool, true, false, ◌==◌, nat_eq, if◌then◌else◌}
use Rattle.std.proofs.lemmas.Bool.{eqb-true, eqb-false}
use Rattle.rr_account.proofs.heard.count_hearing.Goals as goal

raised : (s : List ℕ) (n k : ℕ) → n < length s → get_or (set s n (get_or s n 0 + 1)) k 0 ≡ get_or s k 0 + (if n == k then 1 else 0)
raised s n k within = by (nat_eq n k) refl
  where
    by : (b : Bool) → nat_eq n k ≡ b → get_or (set s n (get_or s n 0 + 1)) k 0 ≡ get_or s k 0 + (if b then 1 else 0)
    by true same = subst (λ (j : ℕ). get_or (set s n (get_or s n 0 + 1)) j 0 ≡ get_or s j 0 + 1) (eqb-true n k same) (get_or-set_same s n (get_or s n 0 + 1) 0 within)
    by false other =
        let none : get_or s k 0 ≡ get_or s k 0 + 0 = omega arith in
        get_or-set_other s n k (get_or s n 0 + 1) 0 (λ e. eqb-false n k other (sym e)) ∙ none

pub returns : goal.returns
returns c = λ k. raised c.args.counts.now c.args.number k c.requires.within
