-- How many names are bound, and which of them have places, as operations have their effects.
use Rattle.std.proofs.Common.{◌≡◌, ℕ, ◌+◌, Bool, true, false, ◌||◌, List, [], ◌∷◌, length, Option, None, Some, Ordering, is_some, IsTrue, refl, ap, sym, ◌∙◌, arith, subst}
use Rattle.std.specs.declared.cmp.Ordering.TheVariants.{Less, Equal, Greater}
use Rattle.std.specs.Ordering.{nat_cmp}
use Rattle.std.specs.Cmp.Lexicographic.{slice_cmp}
use Rattle.std.specs.Str.{bytes_eq}
use Rattle.std.specs.BTreeMap.{insert_entry, is_at}
use Rattle.std.specs.List.Sorted.{IsStrictlySortedBy}
use Rattle.std.specs.Map.{lookup, remove_entry, keys_of, set_value}
use Rattle.std.proofs.lemmas.Cmp.{nat_list_cmp_total}
use Rattle.std.proofs.lemmas.Map.Lookups.{exact_bytes}
use Rattle.std.proofs.lemmas.Map.Text.{is_eq-slice_cmp}
use Rattle.std.proofs.lemmas.Slice.Eq.{bytes_eq-Decides}
use Rattle.rr_types.specs.declared.command.Op.{Op}
use Rattle.rr_types.specs.declared.command.Op.TheVariants.{Claim, Update, Release, Transfer}
use Rattle.rr_types.specs.declared.command.Reply.TheVariants.{Unknown}
use Rattle.rr_types.specs.Registry.{Holding, Bindings, holding_of, apply_op}
use Rattle.rr_registry.specs.declared.names.Names.{Names}
use Rattle.rr_registry.specs.Places.{filled, has_place, put_entry, held}
use Rattle.rr_registry.proofs.PlaceLemmas.{joined, place_of_value, lookup-filled, filled-put}
use Rattle.rr_types.specs.Commands.{op_name}
use Rattle.rr_registry.specs.Tables.{bindings_in, has_name_place, has_op_place}
use Rattle.rr_registry.proofs.PlacedLemmas.{filled-set, count-set}
use Rattle.rr_registry.proofs.TableLemmas.{lookup-name}
use Rattle.rr_registry.proofs.KeptLemmas.{lookup-insert_entry}
use Rattle.rr_registry.proofs.FreeLemmas.{alone, bind_stays, remove_stays}

module _ {K X : Type 0} where
  inserted_first : (R : K → K → Ordering) (k : K) (v : X) (e : K × X) (es : List (K × X)) → (lookup (is_at (R k)) es ≡ None → length (insert_entry R es k v) ≡ length es + 1) → lookup (is_at (R k)) (e ∷ es) ≡ None → (o : Ordering) → R k e.0 ≡ o → length (insert_entry R (e ∷ es) k v) ≡ length (e ∷ es) + 1
  inserted_first R k v e es more none Less h = rw h (omega arith)
  inserted_first R k v e es more none Equal h = let m = rw h at none in cc
  inserted_first R k v e es more none Greater h = rw h (let m = more (rw h at none) in omega arith)

  -- a new key is one entry more
  pub length_inserted : (R : K → K → Ordering) (k : K) (v : X) (es : List (K × X)) → lookup (is_at (R k)) es ≡ None → length (insert_entry R es k v) ≡ length es + 1
  length_inserted R k v [] none = refl
  length_inserted R k v (e ∷ es) none = inserted_first R k v e es (length_inserted R k v es) none (R k e.0) refl

  removed_first : (test : K → Bool) (e : K × X) (es : List (K × X)) → (is_some (lookup test es) ≡ true → length (remove_entry test es) + 1 ≡ length es) → is_some (lookup test (e ∷ es)) ≡ true → (b : Bool) → test e.0 ≡ b → length (remove_entry test (e ∷ es)) + 1 ≡ length (e ∷ es)
  removed_first test e es more some true h = rw h (omega arith)
  removed_first test e es more some false h = rw h (let m = more (rw h at some) in omega arith)

  -- and a key that goes is one less
  pub length_removed : (test : K → Bool) (es : List (K × X)) → is_some (lookup test es) ≡ true → length (remove_entry test es) + 1 ≡ length es
  length_removed test [] some = cc
  length_removed test (e ∷ es) some = removed_first test e es (length_removed test es) some (test e.0) refl

-- a bound name has a place
pub place_of_bound : (t : Names) (n : List ℕ) → IsTrue (is_some (holding_of (bindings_in t) n)) → IsTrue (has_name_place t n)
place_of_bound t n h = place_of_value (is_at (slice_cmp nat_cmp n)) t.places.entries (ap is_some (lookup-name n (bindings_in t)) ∙ h)

bound_now : (m : Bindings) (k : List ℕ) (x : Holding) → is_some (holding_of (insert_entry (slice_cmp nat_cmp) m k x) k) ≡ true
bound_now m k x =
    let here : is_at (slice_cmp nat_cmp k) k ≡ true = is_eq-slice_cmp k k ∙ (bytes_eq-Decides k k).1 refl in
    ap is_some (sym (lookup-name k (insert_entry (slice_cmp nat_cmp) m k x)) ∙ lookup-insert_entry (slice_cmp nat_cmp) nat_list_cmp_total exact_bytes k x m k)
    ∙ rw here

bound_at : (m : Bindings) (k : List ℕ) (x : Holding) (p q : List ℕ → Bool) → ((n : List ℕ) → is_at (slice_cmp nat_cmp k) n ≡ false → q n ≡ p n) → ((n : List ℕ) → p n ≡ true → is_some (holding_of m n) ≡ true) → (n : List ℕ) → q n ≡ true → (b : Bool) → bytes_eq k n ≡ b → is_some (holding_of (insert_entry (slice_cmp nat_cmp) m k x) n) ≡ true
bound_at m k x p q others free n there true h = subst (λ (y : List ℕ). is_some (holding_of (insert_entry (slice_cmp nat_cmp) m k x) y) ≡ true) ((bytes_eq-Decides k n).0 h) (bound_now m k x)
bound_at m k x p q others free n there false h = bind_stays m k x n (free n (sym (others n (is_eq-slice_cmp k n ∙ h)) ∙ there))

-- a name bound where no place is free: p says which had places, q which have
pub bound_alone : (m : Bindings) (k : List ℕ) (x : Holding) (p q : List ℕ → Bool) → ((n : List ℕ) → is_at (slice_cmp nat_cmp k) n ≡ false → q n ≡ p n) → ((n : List ℕ) → p n ≡ true → is_some (holding_of m n) ≡ true) → (n : List ℕ) → q n ≡ true → is_some (holding_of (insert_entry (slice_cmp nat_cmp) m k x) n) ≡ true
bound_alone m k x p q others free n there = bound_at m k x p q others free n there (bytes_eq k n) refl

freed_at : (m : Bindings) (k : List ℕ) (p q : List ℕ → Bool) → q k ≡ false → ((n : List ℕ) → is_at (slice_cmp nat_cmp k) n ≡ false → q n ≡ p n) → ((n : List ℕ) → p n ≡ true → is_some (holding_of m n) ≡ true) → (n : List ℕ) → q n ≡ true → (b : Bool) → bytes_eq k n ≡ b → is_some (holding_of (remove_entry (bytes_eq k) m) n) ≡ true
freed_at m k p q gone others free n there true h =
    let none : q n ≡ false = subst (λ (y : List ℕ). q y ≡ false) ((bytes_eq-Decides k n).0 h) gone in
    cc
freed_at m k p q gone others free n there false h =
    let bound = is_some (holding_of (remove_entry (bytes_eq k) m) n) in
    alone bound (ap (λ b. bound || b) (sym h) ∙ remove_stays k n m (free n (sym (others n (is_eq-slice_cmp k n ∙ h)) ∙ there)))

-- a name freed, and its place gone with it
pub freed_alone : (m : Bindings) (k : List ℕ) (p q : List ℕ → Bool) → q k ≡ false → ((n : List ℕ) → is_at (slice_cmp nat_cmp k) n ≡ false → q n ≡ p n) → ((n : List ℕ) → p n ≡ true → is_some (holding_of m n) ≡ true) → (n : List ℕ) → q n ≡ true → is_some (holding_of (remove_entry (bytes_eq k) m) n) ≡ true
freed_alone m k p q gone others free n there = freed_at m k p q gone others free n there (bytes_eq k n) refl

-- who has a name, by its place
pub holding_in : (es : List (List ℕ × Option Holding)) (k : List ℕ) (o : Option (Option Holding)) → IsStrictlySortedBy (slice_cmp nat_cmp) (keys_of es) → lookup (is_at (slice_cmp nat_cmp k)) es ≡ o → holding_of (filled es) k ≡ joined o
holding_in es k o sorted there = sym (lookup-name k (filled es)) ∙ lookup-filled (slice_cmp nat_cmp) nat_list_cmp_total k es sorted ∙ ap joined there

-- a name without a place is unknown
pub unknown : (t : Names) (client : ℕ) (op : Op) → IsStrictlySortedBy (slice_cmp nat_cmp) (keys_of t.places.entries) → IsTrue (has_op_place t op) → lookup (is_at (slice_cmp nat_cmp (op_name op))) t.places.entries ≡ None → (bindings_in t, Unknown) ≡ apply_op (bindings_in t) client op
unknown t client (Claim name value) sorted place none = let gone = ap is_some none in cc
unknown t client (Update name value) sorted place none = let free : holding_of (bindings_in t) name ≡ None = holding_in t.places.entries name None sorted none in rw free
unknown t client (Release name) sorted place none = let free : holding_of (bindings_in t) name ≡ None = holding_in t.places.entries name None sorted none in rw free
unknown t client (Transfer name owner) sorted place none = let free : holding_of (bindings_in t) name ≡ None = holding_in t.places.entries name None sorted none in rw free

-- the bound names once a place is written
pub written : (es : List (List ℕ × Option Holding)) (k : List ℕ) (o w : Option Holding) → IsStrictlySortedBy (slice_cmp nat_cmp) (keys_of es) → lookup (is_at (slice_cmp nat_cmp k)) es ≡ Some o → filled (set_value (is_at (slice_cmp nat_cmp k)) es w) ≡ put_entry (slice_cmp nat_cmp) (filled es) k w
written es k o w sorted there = filled-set (slice_cmp nat_cmp) nat_list_cmp_total exact_bytes k w es sorted (ap is_some there)

-- and how many there are
pub written_count : (es : List (List ℕ × Option Holding)) (k : List ℕ) (o w : Option Holding) → IsStrictlySortedBy (slice_cmp nat_cmp) (keys_of es) → lookup (is_at (slice_cmp nat_cmp k)) es ≡ Some o → length (filled (set_value (is_at (slice_cmp nat_cmp k)) es w)) + held o ≡ length (filled es) + held w
written_count es k o w sorted there =
    ap (λ p. length (filled (set_value (is_at (slice_cmp nat_cmp k)) es w)) + held p) (sym (lookup-filled (slice_cmp nat_cmp) nat_list_cmp_total k es sorted ∙ ap joined there))
    ∙ count-set (slice_cmp nat_cmp) nat_list_cmp_total k w es sorted (ap is_some there)

pub held_some : (o : Option Holding) → IsTrue (is_some o) → held o ≡ 1
held_some None h = cc
held_some (Some x) h = refl

-- a name whose free place is gone, by each of its spellings
pub gone_at : (m : Bindings) (es : List (List ℕ × Option Holding)) (k n : List ℕ) → bytes_eq k n ≡ true → has_place (slice_cmp nat_cmp) es k ≡ is_some (lookup (is_at (slice_cmp nat_cmp k)) m) → has_place (slice_cmp nat_cmp) es n ≡ is_some (holding_of m n)
gone_at m es k n same gone = subst (λ (x : List ℕ). has_place (slice_cmp nat_cmp) es x ≡ is_some (holding_of m x)) ((bytes_eq-Decides k n).0 same) (gone ∙ ap is_some (lookup-name k m))

unheld_by : (t : Names) (n : List ℕ) → has_name_place t n ≡ false → (b : Bool) → is_some (holding_of (bindings_in t) n) ≡ b → b ≡ false
unheld_by t n none true h = let p = place_of_bound t n h in cc
unheld_by t n none false h = refl

-- a name without a place has no holding
pub unheld : (t : Names) (n : List ℕ) → has_name_place t n ≡ false → is_some (holding_of (bindings_in t) n) ≡ false
unheld t n none = unheld_by t n none (is_some (holding_of (bindings_in t) n)) refl

pub none_of_unheld : (o : Option Holding) → is_some o ≡ false → o ≡ None
none_of_unheld None h = refl
none_of_unheld (Some x) h = cc

-- the bound names once a name got a new place with a holding
pub put_new : (es : List (List ℕ × Option Holding)) (k : List ℕ) (x : Holding) → IsStrictlySortedBy (slice_cmp nat_cmp) (keys_of es) → filled (insert_entry (slice_cmp nat_cmp) es k (Some x)) ≡ insert_entry (slice_cmp nat_cmp) (filled es) k x
put_new es k x sorted = filled-put (slice_cmp nat_cmp) nat_list_cmp_total exact_bytes k (Some x) es sorted

-- and how many there are
pub count_new : (t : Names) (k : List ℕ) (x : Holding) → has_name_place t k ≡ false → length (insert_entry (slice_cmp nat_cmp) (bindings_in t) k x) ≡ length (bindings_in t) + 1
count_new t k x none = length_inserted (slice_cmp nat_cmp) k x (bindings_in t) (lookup-name k (bindings_in t) ∙ none_of_unheld (holding_of (bindings_in t) k) (unheld t k none))
