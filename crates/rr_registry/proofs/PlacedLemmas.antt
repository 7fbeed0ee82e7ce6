-- A value written in the place that its key has.
use Rattle.std.proofs.Common.{◌≡◌, ◌+◌, ◌≤◌, length, Bool, List, [], ◌∷◌, Option, None, Some, Ordering, is_some, true, false, refl, ap, ◌∙◌, arith}
use Rattle.std.specs.declared.cmp.Ordering.TheVariants.{Less, Equal, Greater}
use Rattle.std.specs.Cmp.{IsTotalOrder}
use Rattle.std.specs.List.{AllByRecursion}
use Rattle.std.specs.List.Sorted.{IsStrictlySortedBy}
use Rattle.std.specs.BTreeMap.{insert_entry, is_at}
use Rattle.std.specs.Map.{lookup, keys_of, set_value}
use Rattle.std.proofs.lemmas.Map.Keys.{sorted_head, sorted_tail}
use Rattle.std.proofs.lemmas.Map.Lookups.{CmpEqualImpliesEq}
use Rattle.rr_registry.specs.Places.{filled, filled_cons, put_entry, held}
use Rattle.rr_registry.proofs.PlaceLemmas.{filled-put, count-put}

module _ {K V : Type 0} (R : K → K → Ordering) where
  -- the key is below the key of each entry
  abbrev IsBelow : K → List (K × V) → Type 0
  IsBelow k es = AllByRecursion (λ y. R k y ≡ Less) (keys_of es)

  none_below : (k : K) (es : List (K × V)) → IsBelow k es → lookup (is_at (R k)) es ≡ None
  none_below k [] h = refl
  none_below k (e ∷ es) h = rw h.0 (none_below k es h.1)

  below_less : IsTotalOrder R → (k q : K) (es : List (K × V)) → R k q ≡ Less → IsBelow q es → IsBelow k es
  below_less o k q [] e h = tt
  below_less o k q (x ∷ es) e h = (o.trans k q x.0 e h.0, below_less o k q es e h.1)

  set_first : IsTotalOrder R → (k : K) (v : V) (e : K × V) (es : List (K × V)) → IsStrictlySortedBy R (keys_of (e ∷ es)) → (is_some (lookup (is_at (R k)) es) ≡ true → set_value (is_at (R k)) es v ≡ insert_entry R es k v) → is_some (lookup (is_at (R k)) (e ∷ es)) ≡ true → (r : Ordering) → R k e.0 ≡ r → set_value (is_at (R k)) (e ∷ es) v ≡ insert_entry R (e ∷ es) k v
  set_first o k v e es s more there Less h =
      let none = none_below k es (below_less o k e.0 es h (sorted_head R e.0 (keys_of es) s)) in
      let found = rw (h, none) at there in
      cc
  set_first o k v e es s more there Equal h = rw h
  set_first o k v e es s more there Greater h = rw h (ap (λ xs. e ∷ xs) (more (rw h at there)))

  -- what is written at a key that is there is inserted
  pub set_is_insert : IsTotalOrder R → (k : K) (v : V) (es : List (K × V)) → IsStrictlySortedBy R (keys_of es) → is_some (lookup (is_at (R k)) es) ≡ true → set_value (is_at (R k)) es v ≡ insert_entry R es k v
  set_is_insert o k v [] s there = cc
  set_is_insert o k v (e ∷ es) s there = set_first o k v e es s (set_is_insert o k v es (sorted_tail R e.0 (keys_of es) s)) there (R k e.0) refl

module _ {K V : Type 0} (R : K → K → Ordering) where
  -- what is written in a place is put among the entries
  pub filled-set : IsTotalOrder R → CmpEqualImpliesEq R → (k : K) (v : Option V) (es : List (K × Option V)) → IsStrictlySortedBy R (keys_of es) → is_some (lookup (is_at (R k)) es) ≡ true → filled (set_value (is_at (R k)) es v) ≡ put_entry R (filled es) k v
  filled-set o exact k v es s there = ap filled (set_is_insert R o k v es s there) ∙ filled-put R o exact k v es s

  -- how many values there are then
  pub count-set : IsTotalOrder R → (k : K) (v : Option V) (es : List (K × Option V)) → IsStrictlySortedBy R (keys_of es) → is_some (lookup (is_at (R k)) es) ≡ true → length (filled (set_value (is_at (R k)) es v)) + held (lookup (is_at (R k)) (filled es)) ≡ length (filled es) + held v
  count-set o k v es s there = ap (λ xs. length (filled xs) + held (lookup (is_at (R k)) (filled es))) (set_is_insert R o k v es s there) ∙ count-put R o k v es s

module _ {K V : Type 0} where
  places_first : (t u : K → Bool) (e : K × V) (es : List (K × V)) (w : V) → is_some (lookup t (set_value u es w)) ≡ is_some (lookup t es) → (b : Bool) → u e.0 ≡ b → (d : Bool) → t e.0 ≡ d → is_some (lookup t (set_value u (e ∷ es) w)) ≡ is_some (lookup t (e ∷ es))
  places_first t u e es w more true h true g = rw (h, g)
  places_first t u e es w more true h false g = rw (h, g)
  places_first t u e es w more false h true g = rw (h, g)
  places_first t u e es w more false h false g = rw (h, g) more

  -- the keys stay
  pub places_set : (t u : K → Bool) (es : List (K × V)) (w : V) → is_some (lookup t (set_value u es w)) ≡ is_some (lookup t es)
  places_set t u [] w = refl
  places_set t u (e ∷ es) w = places_first t u e es w (places_set t u es w) (u e.0) refl (t e.0) refl

module _ {K V : Type 0} where
  filled_cons_few : (k : K) (v : Option V) (es : List (K × V)) → length (filled_cons k v es) ≤ length es + 1
  filled_cons_few k None es = omega arith
  filled_cons_few k (Some v) es = omega arith

  filled_few : (es : List (K × Option V)) → length (filled es) ≤ length es
  filled_few [] = omega arith
  filled_few (e ∷ es) = let first = filled_cons_few e.0 e.1 (filled es) in let more = filled_few es in omega arith

  bound_first : (t : K → Bool) (k : K) (o : Option V) (es : List (K × Option V)) → (length es ≡ length (filled es) → is_some (lookup t es) ≡ is_some (lookup t (filled es))) → length es + 1 ≡ length (filled_cons k o (filled es)) → (b : Bool) → t k ≡ b → is_some (lookup t ((k, o) ∷ es)) ≡ is_some (lookup t (filled_cons k o (filled es)))
  bound_first t k None es more same b h = let few = filled_few es in absurd (omega arith)
  bound_first t k (Some v) es more same true h = rw h
  bound_first t k (Some v) es more same false h = rw h (more (omega arith))

  -- where there are as many values as places, each place has one
  pub all_bound : (t : K → Bool) (es : List (K × Option V)) → length es ≡ length (filled es) → is_some (lookup t es) ≡ is_some (lookup t (filled es))
  all_bound t [] same = refl
  all_bound t (e ∷ es) same = bound_first t e.0 e.1 es (all_bound t es) (omega arith) (t e.0) refl
