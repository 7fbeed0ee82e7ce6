-- The decided prefix of facts instance by instance, and that lawful facts only make it longer.
use Rattle.std.proofs.Common.{◌≡◌, ℕ, ◌+◌, ◌≤◌, ◌⊎◌, inl, inr, zero, suc, Bool, true, false, ◌==◌, if◌then◌else◌, List, [], ◌∷◌, ◌++◌, length, Contains, Option, None, Some, slice_get, refl, ap, sym, ◌∙◌, subst, arith, append-nil, eqb-true, le_of_suc-le-suc, add-zero, length-append}
use Rattle.std.specs.Prelude.{map}
use Rattle.std.specs.Option.{some_prefix}
use Rattle.std.specs.List.{range_with_len}
use Rattle.std.proofs.lemmas.Bool.{false≢true}
use Rattle.std.proofs.lemmas.Option.{none-some, same_Some}
use Rattle.rr_types.specs.declared.command.Command.{Command}
use Rattle.rr_types.specs.declared.fact.Fact.{Fact}
use Rattle.rr_types.specs.declared.fact.Fact.TheVariants.{Enter, Propose, Adopt, Decide}
use Rattle.rr_types.specs.declared.promise.Standing.{Standing}
use Rattle.rr_types.specs.declared.promise.Standing.TheVariants.{Decided, Open}
use Rattle.rr_types.specs.Facts.{instance_of, standing_of, after_fact, decision_of}
use Rattle.rr_types.specs.Standings.{standing_from}
use Rattle.rr_model.specs.Lawful.{Heard}
use Rattle.rr_model.proofs.Permitted.{IsPermittedAt}
use Rattle.rr_model.specs.World.{decided_prefix}
use Rattle.rr_model.proofs.Histories.{History, from_then_on}

-- a command, where there is one, and those behind it; else the list ends
abbrev pub while_decided : Option Command → List Command → List Command
while_decided None rest = []
while_decided (Some v) rest = v ∷ rest

-- the commands decided by the facts for instance i and on, up to the first undecided one, at most so many
abbrev pub decided_from : ℕ → ℕ → List Fact → List Command
decided_from zero i facts = []
decided_from (suc most) i facts = while_decided (decision_of (standing_of i facts)) (decided_from most (i + 1) facts)

while_some : (o : Option Command) (os : List (Option Command)) → some_prefix (o ∷ os) ≡ while_decided o (some_prefix os)
while_some None os = refl
while_some (Some v) os = refl

from_place : (facts : List Fact) (most i : ℕ) → some_prefix (map (λ k. decision_of (standing_of k facts)) (range_with_len i most)) ≡ decided_from most i facts
from_place facts zero i = refl
from_place facts (suc most) i =
    while_some (decision_of (standing_of i facts)) (map (λ k. decision_of (standing_of k facts)) (range_with_len (i + 1) most))
    ∙ ap (while_decided (decision_of (standing_of i facts))) (from_place facts most (i + 1))

-- the decided prefix, instance by instance
pub prefix_is : (facts : List Fact) → decided_prefix facts ≡ decided_from (length facts) 0 facts
prefix_is facts = from_place facts (length facts) 0

-- a list is a beginning of another
pub record Begins (xs ys : List Command) : Type 0 where
  pub rest : List Command
  pub is : xs ++ rest ≡ ys

pub begins_itself : (xs : List Command) → Begins xs xs
begins_itself xs = record { rest = []; is = append-nil xs }

decided_for_good : (n p : ℕ) (h : Heard) (i : ℕ) (v : Command) (s : Option Standing) (f : Fact) → instance_of f ≡ i → IsPermittedAt n p s h f → decision_of s ≡ Some v → decision_of (after_fact s f) ≡ Some v
decided_for_good n p h i v None f is l e = absurd (none-some v e)
decided_for_good n p h i v (Some (Open o)) f is l e = absurd (none-some v e)
decided_for_good n p h i v (Some (Decided w)) (Enter j x) is l e = absurd (false≢true l.0)
decided_for_good n p h i v (Some (Decided w)) (Propose j r x) is l e = absurd l.0
decided_for_good n p h i v (Some (Decided w)) (Adopt j r x) is l e = absurd l.0
decided_for_good n p h i v (Some (Decided w)) (Decide j x) is l e = absurd (false≢true l.0)

-- what lawful facts have decided stays decided
pub stays_decided : (n p : ℕ) (h : Heard) (a b : List Fact) → History n p h (a ++ b) → (i : ℕ) (v : Command) → decision_of (standing_of i a) ≡ Some v → decision_of (standing_of i (a ++ b)) ≡ Some v
stays_decided n p h a b H i v e = from_then_on n p h i (λ s. decision_of s ≡ Some v) (decided_for_good n p h i v) a b H e

grow_one : (o q : Option Command) (xs ys : List Command) → ((v : Command) → o ≡ Some v → q ≡ Some v) → Begins xs ys → Begins (while_decided o xs) (while_decided q ys)
grow_one None q xs ys f b = record { rest = while_decided q ys; is = refl }
grow_one (Some v) None xs ys f b = absurd (none-some v (f v refl))
grow_one (Some v) (Some w) xs ys f b = record { rest = b.rest; is = (let e : w ≡ v = same_Some w v (f v refl) in let t : xs ++ b.rest ≡ ys = b.is in cc) }

-- where what the first facts decide stays decided, a longer list begins with theirs
decided_from_follows : (a c : List Fact) → ((i : ℕ) (v : Command) → decision_of (standing_of i a) ≡ Some v → decision_of (standing_of i c) ≡ Some v) → (k l i : ℕ) → k ≤ l → Begins (decided_from k i a) (decided_from l i c)
decided_from_follows a c stays zero l i x = record { rest = decided_from l i c; is = refl }
decided_from_follows a c stays (suc k) zero i x = absurd (omega arith)
decided_from_follows a c stays (suc k) (suc l) i x =
    grow_one (decision_of (standing_of i a)) (decision_of (standing_of i c)) (decided_from k (i + 1) a) (decided_from l (i + 1) c)
    (stays i)
    (decided_from_follows a c stays k l (i + 1) (le_of_suc-le-suc x))

-- and so does its decided prefix
pub prefix_follows : (a b : List Fact) → ((i : ℕ) (v : Command) → decision_of (standing_of i a) ≡ Some v → decision_of (standing_of i (a ++ b)) ≡ Some v) → Begins (decided_prefix a) (decided_prefix (a ++ b))
prefix_follows a b stays =
    let B : Begins (decided_from (length a) 0 a) (decided_from (length (a ++ b)) 0 (a ++ b)) = decided_from_follows a (a ++ b) stays (length a) (length (a ++ b)) 0 (omega (arith, length-append a b)) in
    record { rest = B.rest; is = ap (λ z. z ++ B.rest) (prefix_is a) ∙ B.is ∙ sym (prefix_is (a ++ b)) }

-- the decided prefix only grows
pub prefix_grows : (n p : ℕ) (h : Heard) (a b : List Fact) → History n p h (a ++ b) → Begins (decided_prefix a) (decided_prefix (a ++ b))
prefix_grows n p h a b H = prefix_follows a b (stays_decided n p h a b H)

place_decided_at : (facts : List Fact) (i k : ℕ) (v : Command) (xs : List Command) (o : Option Command) → decision_of (standing_of i facts) ≡ o → ((j : ℕ) → slice_get xs j ≡ Some v → decision_of (standing_of ((i + 1) + j) facts) ≡ Some v) → slice_get (while_decided o xs) k ≡ Some v → decision_of (standing_of (i + k) facts) ≡ Some v
place_decided_at facts i k v xs None e ih g = absurd (none-some v g)
place_decided_at facts i zero v xs (Some w) e ih g = subst (λ j. decision_of (standing_of j facts) ≡ Some v) (sym (add-zero i)) (e ∙ g)
place_decided_at facts i (suc k) v xs (Some w) e ih g = let s : (i + 1) + k ≡ i + suc k = omega arith in subst (λ j. decision_of (standing_of j facts) ≡ Some v) s (ih k g)

-- each place of the prefix is decided
pub place_decided : (facts : List Fact) (most i k : ℕ) (v : Command) → slice_get (decided_from most i facts) k ≡ Some v → decision_of (standing_of (i + k) facts) ≡ Some v
place_decided facts zero i k v g = absurd (none-some v g)
place_decided facts (suc most) i k v g = place_decided_at facts i k v (decided_from most (i + 1) facts) (decision_of (standing_of i facts)) refl (λ j. place_decided facts most (i + 1) j v) g

Contains-tail : {A : Type 0} → (y : A) (xs : List A) (x : A) → Contains xs x → Contains (y ∷ xs) x
Contains-tail y xs x c = (suc c.0, omega arith, c.2)

decided_step : (s : Option Standing) (i : ℕ) (v : Command) (f : Fact) → instance_of f ≡ i → decision_of (after_fact s f) ≡ Some v → (decision_of s ≡ Some v) ⊎ (f ≡ Decide i v)
decided_step s i v (Enter j e) is d = absurd (none-some v d)
decided_step None i v (Propose j r w) is d = inl d
decided_step (Some (Decided u)) i v (Propose j r w) is d = inl d
decided_step (Some (Open o)) i v (Propose j r w) is d = absurd (none-some v d)
decided_step None i v (Adopt j r w) is d = inl d
decided_step (Some (Decided u)) i v (Adopt j r w) is d = inl d
decided_step (Some (Open o)) i v (Adopt j r w) is d = absurd (none-some v d)
decided_step s i v (Decide j w) is d = inr (let e : w ≡ v = same_Some w v d in cc)

decided_one : (s : Option Standing) (i : ℕ) (v : Command) (f : Fact) (b : Bool) → (instance_of f == i) ≡ b → decision_of (if b then after_fact s f else s) ≡ Some v → (decision_of s ≡ Some v) ⊎ (f ≡ Decide i v)
decided_one s i v f true e d = decided_step s i v f (eqb-true _ _ e) d
decided_one s i v f false e d = inl d

-- what is decided was decided by a fact
pub decided_by : (s : Option Standing) (i : ℕ) (v : Command) (facts : List Fact) → decision_of (standing_from s i facts) ≡ Some v → (decision_of s ≡ Some v) ⊎ Contains facts (Decide i v)
decided_by s i v [] d = inl d
decided_by s i v (f ∷ facts) d = elim (decided_by (if instance_of f == i then after_fact s f else s) i v facts d) [
  | inl e ↦ elim (decided_one s i v f (instance_of f == i) refl e) [
    | inl z ↦ inl z
    | inr z ↦ inr (0, omega arith, z)
  ]
  | inr c ↦ inr (Contains-tail f facts (Decide i v) c)
]

-- each place of the prefix was decided by a fact
pub prefix_decides : (facts : List Fact) (k : ℕ) (v : Command) → slice_get (decided_prefix facts) k ≡ Some v → Contains facts (Decide k v)
prefix_decides facts k v g = elim (decided_by None k v facts (let z : 0 + k ≡ k = omega arith in subst (λ j. decision_of (standing_of j facts) ≡ Some v) z (place_decided facts (length facts) 0 k v (subst (λ z. slice_get z k ≡ Some v) (prefix_is facts) g)))) [
  | inl e ↦ absurd (none-some v e)
  | inr c ↦ c
]
