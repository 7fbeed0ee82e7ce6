-- Facts that decide each instance below some one: there are as many, and their decided prefix has what that one decides.
use Rattle.std.proofs.Common.{◌≡◌, ℕ, ◌+◌, ◌<◌, ◌≤◌, zero, suc, Bool, true, false, ◌==◌, if◌then◌else◌, List, [], ◌∷◌, ◌++◌, length, Contains, Option, None, Some, refl, ap, sym, ◌∙◌, subst, arith, eq-eqb, eqb-true, append_assoc}
use Rattle.std.proofs.lemmas.Bool.{ne_eqb}
use Rattle.std.proofs.lemmas.Option.{none-some, same_Some}
use Rattle.rr_types.specs.declared.command.Command.{Command}
use Rattle.rr_types.specs.declared.fact.Fact.{Fact}
use Rattle.rr_types.specs.declared.fact.Fact.TheVariants.{Decide}
use Rattle.rr_types.specs.Facts.{instance_of, standing_of, after_fact, decision_of}
use Rattle.rr_types.specs.Standings.{standing_from}
use Rattle.rr_model.specs.Lawful.{Heard, count_below}
use Rattle.rr_model.specs.World.{decided_prefix}
use Rattle.rr_model.proofs.Histories.{History}
use Rattle.rr_model.proofs.Kept.{standing_after}
use Rattle.rr_model.proofs.Places.{Place, place_of}
use Rattle.rr_model.proofs.Prefixes.{decided_from, prefix_is, stays_decided}
use Rattle.rr_model.proofs.Listed.{counts_no_fewer}

-- whether a fact is about the instance
abbrev has : List Fact → ℕ → Bool
has [] j = false
has (f ∷ fs) j = if instance_of f == j then true else has fs j

no_others : (g : ℕ → Bool) (i k : ℕ) → k ≤ i → (q : ℕ) → q < k → (if i == q then true else g q) ≡ true → g q ≡ true
no_others g i k l q x e = sym (ap (λ b. if b then true else g q) (ne_eqb i q (λ y. omega arith))) ∙ e

count_by : (g : ℕ → Bool) (i k : ℕ) → (b : Bool) → (i == k) ≡ b → count_below (λ q. if i == q then true else g q) k ≤ suc (count_below g k) → (i ≡ k → count_below (λ q. if i == q then true else g q) k ≤ count_below g k) → (x : Bool) → (if (if b then true else x) then suc (count_below (λ q. if i == q then true else g q) k) else count_below (λ q. if i == q then true else g q) k) ≤ suc (if x then suc (count_below g k) else count_below g k)
count_by g i k true e ih at false = let y : count_below (λ q. if i == q then true else g q) k ≤ count_below g k = at (eqb-true i k e) in omega arith
count_by g i k true e ih at true = let y : count_below (λ q. if i == q then true else g q) k ≤ count_below g k = at (eqb-true i k e) in omega arith
count_by g i k false e ih at false = ih
count_by g i k false e ih at true = omega arith

-- one member more, at most
pub one_more : (g : ℕ → Bool) (i k : ℕ) → count_below (λ q. if i == q then true else g q) k ≤ suc (count_below g k)
one_more g i zero = omega arith
one_more g i (suc k) = count_by g i k (i == k) refl (one_more g i k) (λ e. counts_no_fewer (λ q. if i == q then true else g q) g k (no_others g i k (omega arith))) (g k)

pub none_counted : (k : ℕ) → count_below (λ q. false) k ≤ 0
none_counted zero = omega arith
none_counted (suc k) = none_counted k

no_more_than : (facts : List Fact) (k : ℕ) → count_below (has facts) k ≤ length facts
no_more_than [] k = none_counted k
no_more_than (f ∷ fs) k = let a : count_below (λ q. if instance_of f == q then true else has fs q) k ≤ suc (count_below (has fs) k) = one_more (has fs) (instance_of f) k in let b : count_below (has fs) k ≤ length fs = no_more_than fs k in omega arith

all_counted : (k : ℕ) → k ≤ count_below (λ q. true) k
all_counted zero = omega arith
all_counted (suc k) = let a : k ≤ count_below (λ q. true) k = all_counted k in omega arith

has_at : (facts : List Fact) (f : Fact) (j k : ℕ) → instance_of f ≡ j → Place facts f → has facts j ≡ true
has_at facts f j k is x = subst (λ z. has z j ≡ true) (sym x.is) (there x.before)
  where
    there : (before : List Fact) → has (before ++ f ∷ x.after) j ≡ true
    there [] = ap (λ b. if b then true else has x.after j) (eq-eqb (instance_of f) j is)
    there (g ∷ before) = by (instance_of g == j) (there before)
      where
        by : (b : Bool) → has (before ++ f ∷ x.after) j ≡ true → (if b then true else has (before ++ f ∷ x.after) j) ≡ true
        by true h = refl
        by false h = h

-- there are as many facts as instances that they are about
pub long_enough : (facts : List Fact) (k : ℕ) → ((j : ℕ) → j < k → (u : Command) × Contains facts (Decide j u)) → k ≤ length facts
long_enough facts k each =
    let a : count_below (λ q. true) k ≤ count_below (has facts) k = counts_no_fewer (λ q. true) (has facts) k (λ j l e. has_at facts (Decide j (each j l).0) j k refl (place_of facts (Decide j (each j l).0) (each j l).1)) in
    let b : count_below (has facts) k ≤ length facts = no_more_than facts k in
    let c : k ≤ count_below (λ q. true) k = all_counted k in
    omega arith

-- what a kept fact decides is decided
pub decision_at : (n p : ℕ) (h : Heard) (facts : List Fact) → History n p h facts → (j : ℕ) (u : Command) → Contains facts (Decide j u) → decision_of (standing_of j facts) ≡ Some u
decision_at n p h facts H j u c =
    let x : Place facts (Decide j u) = place_of facts (Decide j u) c in
    let split : facts ≡ (x.before ++ Decide j u ∷ []) ++ x.after = x.is ∙ sym (append_assoc x.before (Decide j u ∷ []) x.after) in
    subst (λ z. decision_of (standing_of j z) ≡ Some u) (sym split)
    (stays_decided n p h (x.before ++ Decide j u ∷ []) x.after (subst (History n p h) split H) j u (ap decision_of (standing_after j x.before (Decide j u) refl)))

decided_here : (facts : List Fact) (m i k : ℕ) (c : Command) (o : Option Command) → decision_of (standing_of i facts) ≡ o → ((j : ℕ) → j ≤ k → (u : Command) × (decision_of (standing_of (i + j) facts) ≡ Some u)) → decision_of (standing_of (i + k) facts) ≡ Some c → k < suc m → ((k2 : ℕ) → k ≡ suc k2 → Contains (decided_from m (i + 1) facts) c) → Contains (decided_from (suc m) i facts) c
decided_here facts m i k c None e each last l more =
    let x : (u : Command) × (decision_of (standing_of (i + 0) facts) ≡ Some u) = each 0 (omega arith) in
    absurd (none-some x.0 (sym e ∙ subst (λ z. decision_of (standing_of z facts) ≡ Some x.0) (let z : i + 0 ≡ i = omega arith in z) x.1))
decided_here facts m i zero c (Some v) e each last l more = rw e (0, omega arith, same_Some v c (sym e ∙ subst (λ z. decision_of (standing_of z facts) ≡ Some c) (let z : i + 0 ≡ i = omega arith in z) last))
decided_here facts m i (suc k) c (Some v) e each last l more = rw e (let t : Contains (decided_from m (i + 1) facts) c = more k refl in (suc t.0, (let y : t.0 < length (decided_from m (i + 1) facts) = t.1 in omega arith), t.2))

in_decided : (facts : List Fact) (m i k : ℕ) (c : Command) → k < m → ((j : ℕ) → j ≤ k → (u : Command) × (decision_of (standing_of (i + j) facts) ≡ Some u)) → decision_of (standing_of (i + k) facts) ≡ Some c → Contains (decided_from m i facts) c
in_decided facts zero i k c l each last = absurd (omega arith)
in_decided facts (suc m) i zero c l each last = decided_here facts m i zero c (decision_of (standing_of i facts)) refl each last l (λ k2 e. absurd (omega arith))
in_decided facts (suc m) i (suc k) c l each last =
    let further : Contains (decided_from m (i + 1) facts) c = in_decided facts m (i + 1) k c (omega arith)
    (λ j x. let y : (u : Command) × (decision_of (standing_of (i + suc j) facts) ≡ Some u) = each (suc j) (omega arith) in (y.0, subst (λ z. decision_of (standing_of z facts) ≡ Some y.0) (let z : i + suc j ≡ (i + 1) + j = omega arith in z) y.1))
    (subst (λ z. decision_of (standing_of z facts) ≡ Some c) (let z : i + suc k ≡ (i + 1) + k = omega arith in z) last) in
    decided_here facts m i (suc k) c (decision_of (standing_of i facts)) refl each last l (λ k2 e. further)

-- where each instance up to this one is decided, the decided prefix has what this one decides
pub in_prefix : (n p : ℕ) (h : Heard) (facts : List Fact) → History n p h facts → (k : ℕ) (c : Command) → ((j : ℕ) → j < suc k → (u : Command) × Contains facts (Decide j u)) → Contains facts (Decide k c) → Contains (decided_prefix facts) c
in_prefix n p h facts H k c each last =
    subst (λ z. Contains z c) (sym (prefix_is facts))
    (in_decided facts (length facts) 0 k c (let l : suc k ≤ length facts = long_enough facts (suc k) each in omega arith)
    (λ j l. let y : (u : Command) × Contains facts (Decide j u) = each j (omega arith) in (y.0, subst (λ z. decision_of (standing_of z facts) ≡ Some y.0) (let z : j ≡ 0 + j = omega arith in z) (decision_at n p h facts H j y.0 y.1)))
    (subst (λ z. decision_of (standing_of z facts) ≡ Some c) (let z : k ≡ 0 + k = omega arith in z) (decision_at n p h facts H k c last)))

-- from some instance on no fact speaks of any
pub unspoken : (facts : List Fact) → (b : ℕ) × ((i : ℕ) → b ≤ i → standing_of i facts ≡ None)
unspoken [] = (0, λ i l. refl)
unspoken (f ∷ fs) =
    let r : (b : ℕ) × ((i : ℕ) → b ≤ i → standing_of i fs ≡ None) = unspoken fs in
    (suc (instance_of f + r.0), λ i l. ap (λ t. standing_from (if t then after_fact None f else None) i fs) (ne_eqb (instance_of f) i (λ e. omega arith)) ∙ r.1 i (omega arith))
