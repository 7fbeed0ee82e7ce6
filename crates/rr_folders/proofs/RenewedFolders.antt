-- What is read of the others' folders says when the disk of a lost node may be made anew.
use Rattle.std.proofs.Common.{◌≡◌, ◌⊎◌, ℕ, zero, suc, ◌+◌, ◌<◌, ◌≤◌, max, Bool, true, false, cond, nat_lt, List, [], ◌∷◌, ◌++◌, length, Contains, fold, None, Some, inl, inr, refl, ap, ◌∙◌, arith}
use Rattle.std.proofs.lemmas.Bool.{ne_eqb}
use Rattle.rr_types.specs.declared.command.Command.{Command}
use Rattle.rr_types.specs.declared.promise.Entry.{Entry}
use Rattle.rr_types.specs.Promises.{standing_in}
use Rattle.rr_model.specs.Deeds.{Life, Lives}
use Rattle.rr_model.specs.LostDisks.{PromisesNothingFrom, DoesAMajorityEnd}
use Rattle.rr_model.specs.RenewedDisks.{Turn, Renewed, AreTurns, AreDisksChosen, IsIdle, MayTurn, lives_then}
use Rattle.rr_model.specs.Sound.{IsChosenList}
use Rattle.rr_model.proofs.LostDisks.{disks_chosen, may_be_renewed}
use Rattle.rr_model.proofs.Quorums.{majority_of_weaker}
use Rattle.rr_folders.specs.declared.verify_folder.Reading.{Reading}
use Rattle.rr_folders.specs.declared.verify_folder.Reading.TheVariants.{Facts, Blank, Refused}
use Rattle.rr_folders.specs.Agreement.{decided_of, longer, longest_decided}
use Rattle.rr_folders.specs.Renewal.{end_in, entries_of, end_of, IsDiskOf, IsAtRest, AreDisksOf, AreDisksOfSome}

-- ---- what a list has

has_none : {A : Type 0} (x : A) → Contains [] x → ⊥
has_none {A} x c = let l = c.1 in omega (arith, l)

has_one : {A : Type 0} (y : A) (xs : List A) (x : A) → Contains (y ∷ xs) x → (y ≡ x) ⊎ Contains xs x
has_one {A} y xs x (zero, l, e) = inl e
has_one {A} y xs x (suc k, l, e) = inr (k, omega arith, e)

has_first : {A : Type 0} (x : A) (xs : List A) → Contains (x ∷ xs) x
has_first {A} x xs = (0, omega arith, refl)

has_later : {A : Type 0} (y : A) (xs : List A) (x : A) → Contains xs x → Contains (y ∷ xs) x
has_later {A} y xs x c = let l = c.1 in (suc c.0, omega (arith, l), c.2)

-- ---- above the end of folders

entries_rise : (es : List Entry) (k : ℕ) → k ≤ fold (λ end e. max end (e.instance + 1)) k es
entries_rise [] k = omega arith
entries_rise (e ∷ es) k = let h = entries_rise es (max k (e.instance + 1)) in omega (arith, h)

none_above : (es : List Entry) (k i : ℕ) → fold (λ end e. max end (e.instance + 1)) k es ≤ i → standing_in es i ≡ None
none_above [] k i l = refl
none_above (e ∷ es) k i l =
    let h = entries_rise es (max k (e.instance + 1)) in
    ap (λ (b : Bool). cond b (Some e.standing) (standing_in es i)) (ne_eqb e.instance i (λ same. omega (arith, h, l, same)))
    ∙ none_above es (max k (e.instance + 1)) i l

folders_rise : (rs : List Reading) (k : ℕ) → k ≤ fold (λ end r. max end (end_in (entries_of r))) k rs
folders_rise [] k = omega arith
folders_rise (r ∷ rs) k = let h = folders_rise rs (max k (end_in (entries_of r))) in omega (arith, h)

each_ends : (rs : List Reading) (k : ℕ) (r : Reading) → Contains rs r → end_in (entries_of r) ≤ fold (λ end s. max end (end_in (entries_of s))) k rs
each_ends [] k r c = absurd (has_none r c)
each_ends (s ∷ rs) k r c = elim (has_one s rs r c) [
  | inl same ↦
      let h = folders_rise rs (max k (end_in (entries_of s))) in
      let e : end_in (entries_of s) ≡ end_in (entries_of r) = ap (λ (x : Reading). end_in (entries_of x)) same in
      omega (arith, h, e)
  | inr later ↦ each_ends rs (max k (end_in (entries_of s))) r later
]

nothing_from : (end : ℕ) (l : Life) (r : Reading) → IsDiskOf l r → end_in (entries_of r) ≤ end → PromisesNothingFrom end l
nothing_from end l (Facts f) found high = (f.promise, f.facts, found, λ i low. none_above f.promise 0 i (omega (arith, high, low)))
nothing_from end l Blank found high = absurd found
nothing_from end l (Refused e) found high = absurd found

majority_ends : (n : ℕ) (v : Lives) (rs : List Reading) → AreDisksOfSome n v rs → DoesAMajorityEnd n v (end_of rs)
majority_ends n v rs some =
    majority_of_weaker n (λ q. (r : Reading) × Contains rs r × IsDiskOf (v.life q) r) (λ q. PromisesNothingFrom (end_of rs) (v.life q))
    (λ q x. nothing_from (end_of rs) (v.life q) x.0 x.2 (each_ends rs 0 x.0 x.1)) some

-- ---- the longest of their lists

longer_one : (P : List Command → Type 0) (xs ys : List Command) (b : Bool) → P xs → P ys → P (cond b ys xs)
longer_one P xs ys true x y = y
longer_one P xs ys false x y = x

longest_one : (P : List Command → Type 0) (best : List Command) (rs : List Reading) → P best → ((r : Reading) → Contains rs r → P (decided_of r))
    → P (fold (λ best r. longer best (decided_of r)) best rs)
longest_one P best [] b each = b
longest_one P best (r ∷ rs) b each =
    longest_one P (longer best (decided_of r)) rs
    (longer_one P best (decided_of r) (nat_lt (length best) (length (decided_of r))) b (each r (has_first r rs))) (λ s c. each s (has_later r rs s c))

none_chosen : (n : ℕ) (v : Lives) → IsChosenList n v.wire []
none_chosen n v i c e = absurd cc

one_chosen : (n : ℕ) (v : Lives) → AreDisksChosen n v → (r : Reading) → IsAtRest v r → IsChosenList n v.wire (decided_of r)
one_chosen n v chosen (Facts f) x = chosen x.0 f.promise f.facts x.1 x.2
one_chosen n v chosen Blank x = none_chosen n v
one_chosen n v chosen (Refused e) x = none_chosen n v

longest_chosen : (n : ℕ) (v : Lives) → AreDisksChosen n v → (rs : List Reading) → AreDisksOf v rs → IsChosenList n v.wire (longest_decided rs)
longest_chosen n v chosen rs at_rest =
    longest_one (λ list. IsChosenList n v.wire list) [] rs (none_chosen n v) (λ r c. one_chosen n v chosen r (at_rest r c))

-- with this list the disk may be made anew
pub renewed_by_folders : (n p : ℕ) (before after : List Turn) (first later : List Reading) → AreTurns n (before ++ after)
    → ((lives_then n before).life p).state ≡ None → IsIdle p after → AreDisksOfSome n (lives_then n before) first
    → AreDisksOf (lives_then n (before ++ after)) later → end_of first + 8 ≤ length (longest_decided later)
    → MayTurn n (lives_then n (before ++ after)) (Renewed p (longest_decided later))
renewed_by_folders n p before after first later turns down idle some at_rest long =
    may_be_renewed n before after turns p (end_of first) down (majority_ends n (lives_then n before) first some) idle (longest_decided later)
    (longest_chosen n (lives_then n (before ++ after)) (disks_chosen n (before ++ after) turns) later at_rest) long
