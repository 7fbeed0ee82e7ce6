-- A transfer to oneself leaves the bindings as they are.
use Rattle.std.proofs.Common.{◌≡◌, ◌∙◌, ◌==◌, ℕ, Bool, true, false, List, [], ◌∷◌, Option, None, Some, is_some, refl, sym, ap, arith}
use Rattle.std.specs.Ordering.{nat_cmp}
use Rattle.std.specs.Cmp.Lexicographic.{slice_cmp}
use Rattle.std.specs.List.Sorted.{IsStrictlySortedBy}
use Rattle.std.specs.BTreeMap.{is_at}
use Rattle.std.specs.Map.{lookup, keys_of, set_value}
use Rattle.std.proofs.lemmas.Cmp.{nat_list_cmp_total}
use Rattle.std.proofs.lemmas.Bool.Decides.{nat_tests}
use Rattle.rr_types.specs.declared.command.RequestNo.{RequestNo}
use Rattle.rr_types.specs.Registry.{Holding, Bindings, holding_of, apply, bind}
use Rattle.rr_registry.proofs.TableLemmas.{lookup-name}
use Rattle.rr_registry.proofs.PlacedLemmas.{set_is_insert}
use Rattle.rr_threads.specs.Syncing.{to_itself}

some_is : {V : Type 0} {x y : V} → Some x ≡ Some y → x ≡ y
some_is h = cc

module _ {K V : Type 0} where
  set_at : (test : K → Bool) (v : V) (e : K × V) (es : List (K × V)) → (lookup test es ≡ Some v → set_value test es v ≡ es) → lookup test (e ∷ es) ≡ Some v → (b : Bool) → test e.0 ≡ b → set_value test (e ∷ es) v ≡ e ∷ es
  set_at test v e es more found true h = let same = rw h at found in rw h (ap (λ (x : V). (e.0, x) ∷ es) (sym (some_is same)))
  set_at test v e es more found false h = rw h (ap (λ xs. e ∷ xs) (more (rw h at found)))

  -- the value that a key has, written there again, changes nothing
  pub set_same : (test : K → Bool) (v : V) (es : List (K × V)) → lookup test es ≡ Some v → set_value test es v ≡ es
  set_same test v [] found = cc
  set_same test v (e ∷ es) found = set_at test v e es (set_same test v es) found (test e.0) refl

-- a name bound again to its owner with its value
pub bound_again : (m : Bindings) (name : List ℕ) (h : Holding) → IsStrictlySortedBy (slice_cmp nat_cmp) (keys_of m) → holding_of m name ≡ Some h → bind m name h.owner h.value ≡ m
bound_again m name h sorted found =
    let there : lookup (is_at (slice_cmp nat_cmp name)) m ≡ Some h = lookup-name name m ∙ found in
    sym (set_is_insert (slice_cmp nat_cmp) nat_list_cmp_total name h m sorted (ap is_some there)) ∙ set_same (is_at (slice_cmp nat_cmp name)) h m there

same_number : (x y : ℕ) → (x == y) ≡ true → x ≡ y
same_number x y h = grind (arith, nat_tests)

by_its_owner : (m : Bindings) (q : RequestNo) (name : List ℕ) (h : Holding) → IsStrictlySortedBy (slice_cmp nat_cmp) (keys_of m) → holding_of m name ≡ Some h → (b : Bool) → (h.owner == q.client) ≡ b → (apply m (to_itself q name)).0 ≡ m
by_its_owner m q name h sorted found false other = rw (found, other) refl
by_its_owner m q name h sorted found true own = rw (found, own) (ap (λ (o : ℕ). bind m name o h.value) (sym (same_number h.owner q.client own)) ∙ bound_again m name h sorted found)

by_holding : (m : Bindings) (q : RequestNo) (name : List ℕ) → IsStrictlySortedBy (slice_cmp nat_cmp) (keys_of m) → (o : Option Holding) → holding_of m name ≡ o → (apply m (to_itself q name)).0 ≡ m
by_holding m q name sorted None free = rw free refl
by_holding m q name sorted (Some h) found = by_its_owner m q name h sorted found (h.owner == q.client) refl

-- a transfer to oneself leaves the bindings as they are, whoever has the name
pub changes_nothing : (m : Bindings) (q : RequestNo) (name : List ℕ) → IsStrictlySortedBy (slice_cmp nat_cmp) (keys_of m) → (apply m (to_itself q name)).0 ≡ m
changes_nothing m q name sorted = by_holding m q name sorted (holding_of m name) refl
