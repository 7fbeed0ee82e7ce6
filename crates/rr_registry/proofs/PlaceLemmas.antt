-- The entries of a table are those of its places that have a value, as places come, are filled and go.
use Rattle.std.proofs.Common.{◌≡◌, ◌+◌, length, Bool, true, false, cond, List, [], ◌∷◌, None, Some, Option, Ordering, is_some, unwrap_or, refl, sym, ap, ◌∙◌, arith}
use Rattle.std.specs.declared.cmp.Ordering.TheVariants.{Less, Equal, Greater}
use Rattle.std.specs.Ordering.{is_eq}
use Rattle.std.specs.Cmp.{IsTotalOrder}
use Rattle.std.specs.List.{AllByRecursion}
use Rattle.std.specs.List.Sorted.{IsStrictlySortedBy}
use Rattle.std.specs.BTreeMap.{insert_entry, is_at}
use Rattle.std.specs.Map.{lookup, remove_entry, set_value, keys_of}
use Rattle.std.proofs.lemmas.Map.Keys.{sorted_head, sorted_tail}
use Rattle.std.proofs.lemmas.Map.Lookups.{CmpEqualImpliesEq}
use Rattle.rr_registry.specs.Places.{filled, filled_cons, put_entry, held}

-- the value at a place that may be free, if there is a place
abbrev pub joined : {V : Type 0} → Option (Option V) → Option V
joined None = None
joined (Some v) = v

pub joined_cond : {V : Type 0} → (b : Bool) (v : Option V) (o : Option (Option V)) → joined (cond b (Some v) o) ≡ cond b v (joined o)
joined_cond true v o = refl
joined_cond false v o = refl

module _ {K V : Type 0} where
  -- a place of another key changes no look-up
  lookup_past : (test : K → Bool) (k : K) (v : Option V) (es : List (K × V)) → test k ≡ false → lookup test (filled_cons k v es) ≡ lookup test es
  lookup_past test k None es h = refl
  lookup_past test k (Some v) es h = rw h

  -- a look-up of the first key finds what its place has
  lookup_at : (test : K → Bool) (k : K) (v : Option V) (es : List (K × V)) → test k ≡ true → lookup test es ≡ None → lookup test (filled_cons k v es) ≡ v
  lookup_at test k None es h n = n
  lookup_at test k (Some v) es h n = rw h

  place_of_first : (test : K → Bool) (e : K × Option V) (es : List (K × Option V)) → (is_some (lookup test (filled es)) ≡ true → is_some (lookup test es) ≡ true) → is_some (lookup test (filled (e ∷ es))) ≡ true → (b : Bool) → test e.0 ≡ b → is_some (lookup test (e ∷ es)) ≡ true
  place_of_first test e es more h true at = rw at
  place_of_first test e es more h false at = rw at (more (rw (lookup_past test e.0 e.1 (filled es) at) at h))

  -- what has a value has a place
  pub place_of_value : (test : K → Bool) (es : List (K × Option V)) → is_some (lookup test (filled es)) ≡ true → is_some (lookup test es) ≡ true
  place_of_value test [] h = h
  place_of_value test (e ∷ es) h = place_of_first test e es (place_of_value test es) h (test e.0) refl

  value_first : (test : K → Bool) (e : K × Option V) (es : List (K × Option V)) (v : V) → (lookup test es ≡ Some (Some v) → lookup test (filled es) ≡ Some v) → lookup test (e ∷ es) ≡ Some (Some v) → (b : Bool) → test e.0 ≡ b → lookup test (filled (e ∷ es)) ≡ Some v
  value_first test e es v more h true at = let m : e.1 ≡ Some v = ap joined (rw at at h) in rw (m, at)
  value_first test e es v more h false at = lookup_past test e.0 e.1 (filled es) at ∙ more (rw at at h)

  -- a place that isn't free has a value
  pub value_of_place : (test : K → Bool) (es : List (K × Option V)) (v : V) → lookup test es ≡ Some (Some v) → lookup test (filled es) ≡ Some v
  value_of_place test [] v h = cc
  value_of_place test (e ∷ es) v h = value_first test e es v (value_of_place test es v) h (test e.0) refl

  -- and without a place there is no value
  pub none_of_none : (test : K → Bool) (es : List (K × Option V)) → lookup test es ≡ None → is_some (lookup test (filled es)) ≡ false
  none_of_none test es h = at (is_some (lookup test (filled es))) refl
    where
      at : (b : Bool) → is_some (lookup test (filled es)) ≡ b → b ≡ false
      at true e = let p : is_some (lookup test es) ≡ true = place_of_value test es e in let n = ap is_some h in cc
      at false e = refl

  remove_past : (test : K → Bool) (k : K) (v : Option V) (es : List (K × V)) → test k ≡ false → remove_entry test (filled_cons k v es) ≡ filled_cons k v (remove_entry test es)
  remove_past test k None es h = refl
  remove_past test k (Some v) es h = rw h

  remove_at : (test : K → Bool) (k : K) (v : Option V) (es : List (K × V)) → test k ≡ true → remove_entry test es ≡ es → remove_entry test (filled_cons k v es) ≡ es
  remove_at test k None es h none = none
  remove_at test k (Some v) es h none = rw h

  none_first : (test : K → Bool) (e : K × Option V) (es : List (K × Option V)) → (lookup test es ≡ None → remove_entry test (filled es) ≡ filled es) → lookup test (e ∷ es) ≡ None → (b : Bool) → test e.0 ≡ b → remove_entry test (filled (e ∷ es)) ≡ filled (e ∷ es)
  none_first test e es more none true h = let m = rw h at none in cc
  none_first test e es more none false h = remove_past test e.0 e.1 (filled es) h ∙ ap (filled_cons e.0 e.1) (more (rw h at none))

  -- where no place is found nothing goes
  remove_none : (test : K → Bool) (es : List (K × Option V)) → lookup test es ≡ None → remove_entry test (filled es) ≡ filled es
  remove_none test [] none = refl
  remove_none test (e ∷ es) none = none_first test e es (remove_none test es) none (test e.0) refl

  remove_first : (test : K → Bool) (e : K × Option V) (es : List (K × Option V)) → (lookup test (remove_entry test es) ≡ None → filled (remove_entry test es) ≡ remove_entry test (filled es)) → lookup test (remove_entry test (e ∷ es)) ≡ None → (b : Bool) → test e.0 ≡ b → filled (remove_entry test (e ∷ es)) ≡ remove_entry test (filled (e ∷ es))
  remove_first test e es more none true h =
      let gone : lookup test es ≡ None = rw h at none in
      rw h (sym (remove_at test e.0 e.1 (filled es) h (remove_none test es gone)))
  remove_first test e es more none false h =
      let gone : lookup test (remove_entry test es) ≡ None = rw (h, h) at none in
      rw h (ap (filled_cons e.0 e.1) (more gone) ∙ sym (remove_past test e.0 e.1 (filled es) h))

  -- what goes with its place, the only one, goes from among the entries
  pub filled-remove : (test : K → Bool) (es : List (K × Option V)) → lookup test (remove_entry test es) ≡ None → filled (remove_entry test es) ≡ remove_entry test (filled es)
  filled-remove test [] none = refl
  filled-remove test (e ∷ es) none = remove_first test e es (filled-remove test es) none (test e.0) refl

  length_cons : (k : K) (v : Option V) (es : List (K × V)) → length (filled_cons k v es) ≡ length es + held v
  length_cons k None es = omega arith
  length_cons k (Some v) es = omega arith

  module _ (R : K → K → Ordering) where
    -- the key is below the key of each place
    abbrev pub IsBelow : K → List (K × Option V) → Type 0
    IsBelow k es = AllByRecursion (λ y. R k y ≡ Less) (keys_of es)

    -- so none of them is at it
    lookup_below : (k : K) (es : List (K × Option V)) → IsBelow k es → lookup (is_at (R k)) (filled es) ≡ None
    lookup_below k [] h = refl
    lookup_below k (e ∷ es) h = lookup_past (is_at (R k)) e.0 e.1 (filled es) (ap is_eq h.0) ∙ lookup_below k es h.1

    -- what is below some keys is so from each equal and each lower key on
    below_equal : IsTotalOrder R → (k q : K) (es : List (K × Option V)) → R k q ≡ Equal → IsBelow q es → IsBelow k es
    below_equal o k q [] e h = tt
    below_equal o k q (x ∷ es) e h = (o.congr k q x.0 e ∙ h.0, below_equal o k q es e h.1)

    below_less : IsTotalOrder R → (k q : K) (es : List (K × Option V)) → R k q ≡ Less → IsBelow q es → IsBelow k es
    below_less o k q [] e h = tt
    below_less o k q (x ∷ es) e h = (o.trans k q x.0 e h.0, below_less o k q es e h.1)

    lookup_first : IsTotalOrder R → (k : K) (e : K × Option V) (es : List (K × Option V)) → IsStrictlySortedBy R (keys_of (e ∷ es)) → lookup (is_at (R k)) (filled es) ≡ joined (lookup (is_at (R k)) es) → (r : Ordering) → R k e.0 ≡ r → lookup (is_at (R k)) (filled (e ∷ es)) ≡ joined (lookup (is_at (R k)) (e ∷ es))
    lookup_first o k e es s more Less h = rw h (lookup_past (is_at (R k)) e.0 e.1 (filled es) (ap is_eq h) ∙ more)
    lookup_first o k e es s more Equal h = rw h (lookup_at (is_at (R k)) e.0 e.1 (filled es) (ap is_eq h) (lookup_below k es (below_equal o k e.0 es h (sorted_head R e.0 (keys_of es) s))))
    lookup_first o k e es s more Greater h = rw h (lookup_past (is_at (R k)) e.0 e.1 (filled es) (ap is_eq h) ∙ more)

    -- the value at a key is what its place has
    pub lookup-filled : IsTotalOrder R → (k : K) (es : List (K × Option V)) → IsStrictlySortedBy R (keys_of es) → lookup (is_at (R k)) (filled es) ≡ joined (lookup (is_at (R k)) es)
    lookup-filled o k [] s = refl
    lookup-filled o k (e ∷ es) s = lookup_first o k e es s (lookup-filled o k es (sorted_tail R e.0 (keys_of es) s)) (R k e.0) refl

    -- a new free place is no entry
    free_first : (k : K) (e : K × Option V) (es : List (K × Option V)) → (lookup (is_at (R k)) es ≡ None → filled (insert_entry R es k None) ≡ filled es) → lookup (is_at (R k)) (e ∷ es) ≡ None → (r : Ordering) → R k e.0 ≡ r → filled (insert_entry R (e ∷ es) k None) ≡ filled (e ∷ es)
    free_first k e es more n Less h = rw h
    free_first k e es more n Equal h = let m = rw h at n in cc
    free_first k e es more n Greater h = rw h (ap (filled_cons e.0 e.1) (more (rw h at n)))

    pub filled-free : (k : K) (es : List (K × Option V)) → lookup (is_at (R k)) es ≡ None → filled (insert_entry R es k None) ≡ filled es
    filled-free k [] n = refl
    filled-free k (e ∷ es) n = free_first k e es (filled-free k es) n (R k e.0) refl

    -- what a place holds, written back, changes no entry
    none_below : (k : K) (es : List (K × Option V)) → IsBelow k es → lookup (is_at (R k)) es ≡ None
    none_below k [] h = refl
    none_below k (e ∷ es) h = rw h.0 (none_below k es h.1)

    kept_first : IsTotalOrder R → (k : K) (e : K × Option V) (es : List (K × Option V)) → IsStrictlySortedBy R (keys_of (e ∷ es)) → filled (insert_entry R es k (unwrap_or (lookup (is_at (R k)) es) None)) ≡ filled es → (r : Ordering) → R k e.0 ≡ r → filled (insert_entry R (e ∷ es) k (unwrap_or (lookup (is_at (R k)) (e ∷ es)) None)) ≡ filled (e ∷ es)
    kept_first o k e es s more Less h =
        let none = none_below k es (below_less o k e.0 es h (sorted_head R e.0 (keys_of es) s)) in
        rw (h, none)
    kept_first o k e es s more Equal h = rw h
    kept_first o k e es s more Greater h = rw h (ap (filled_cons e.0 e.1) more)

    -- nor does a free place for a key that had none
    pub filled-kept : IsTotalOrder R → (k : K) (es : List (K × Option V)) → IsStrictlySortedBy R (keys_of es) → filled (insert_entry R es k (unwrap_or (lookup (is_at (R k)) es) None)) ≡ filled es
    filled-kept o k [] s = refl
    filled-kept o k (e ∷ es) s = kept_first o k e es s (filled-kept o k es (sorted_tail R e.0 (keys_of es) s)) (R k e.0) refl

    -- a free place that goes was no entry
    gone_first : (k : K) (e : K × Option V) (es : List (K × Option V)) → (lookup (is_at (R k)) es ≡ Some None → filled (remove_entry (is_at (R k)) es) ≡ filled es) → lookup (is_at (R k)) (e ∷ es) ≡ Some None → (b : Bool) → is_eq (R k e.0) ≡ b → filled (remove_entry (is_at (R k)) (e ∷ es)) ≡ filled (e ∷ es)
    gone_first k e es more n true h = let m : e.1 ≡ None = ap joined (rw h at n) in rw (h, m)
    gone_first k e es more n false h = rw h (ap (filled_cons e.0 e.1) (more (rw h at n)))

    pub filled-gone : (k : K) (es : List (K × Option V)) → lookup (is_at (R k)) es ≡ Some None → filled (remove_entry (is_at (R k)) es) ≡ filled es
    filled-gone k [] n = refl
    filled-gone k (e ∷ es) n = gone_first k e es (filled-gone k es) n (is_eq (R k e.0)) refl

    insert_before : (k q : K) (o : Option V) (v : V) (es : List (K × V)) → R k q ≡ Less → insert_entry R es k v ≡ (k, v) ∷ es → insert_entry R (filled_cons q o es) k v ≡ (k, v) ∷ filled_cons q o es
    insert_before k q None v es h more = more
    insert_before k q (Some w) v es h more = rw h

    insert_below : (k : K) (v : V) (es : List (K × Option V)) → IsBelow k es → insert_entry R (filled es) k v ≡ (k, v) ∷ filled es
    insert_below k v [] h = refl
    insert_below k v (e ∷ es) h = insert_before k e.0 e.1 v (filled es) h.0 (insert_below k v es h.1)

    remove_before : (k q : K) (o : Option V) (es : List (K × V)) → R k q ≡ Less → remove_entry (is_at (R k)) es ≡ es → remove_entry (is_at (R k)) (filled_cons q o es) ≡ filled_cons q o es
    remove_before k q None es h more = more
    remove_before k q (Some w) es h more = rw h (ap (λ xs. (q, w) ∷ xs) more)

    remove_below : (k : K) (es : List (K × Option V)) → IsBelow k es → remove_entry (is_at (R k)) (filled es) ≡ filled es
    remove_below k [] h = refl
    remove_below k (e ∷ es) h = remove_before k e.0 e.1 (filled es) h.0 (remove_below k es h.1)

    put_below : (k : K) (v : Option V) (es : List (K × Option V)) → IsBelow k es → put_entry R (filled es) k v ≡ filled_cons k v (filled es)
    put_below k None es h = remove_below k es h
    put_below k (Some v) es h = insert_below k v es h

    put_at : (k q : K) (o v : Option V) (es : List (K × V)) → R k q ≡ Equal → k ≡ q → put_entry R es k v ≡ filled_cons k v es → put_entry R (filled_cons q o es) k v ≡ filled_cons q v es
    put_at k q None v es h same below = below ∙ ap (λ x. filled_cons x v es) same
    put_at k q (Some w) None es h same below = rw h
    put_at k q (Some w) (Some v) es h same below = rw h

    put_past : (k q : K) (o v : Option V) (es : List (K × V)) → R k q ≡ Greater → put_entry R (filled_cons q o es) k v ≡ filled_cons q o (put_entry R es k v)
    put_past k q None v es h = refl
    put_past k q (Some w) None es h = rw h
    put_past k q (Some w) (Some v) es h = rw h

    put_first : IsTotalOrder R → CmpEqualImpliesEq R → (k : K) (v : Option V) (e : K × Option V) (es : List (K × Option V)) → IsStrictlySortedBy R (keys_of (e ∷ es)) → filled (insert_entry R es k v) ≡ put_entry R (filled es) k v → (r : Ordering) → R k e.0 ≡ r → filled (insert_entry R (e ∷ es) k v) ≡ put_entry R (filled (e ∷ es)) k v
    put_first o exact k v e es s more Less h = rw h (sym (put_below k v (e ∷ es) (h, below_less o k e.0 es h (sorted_head R e.0 (keys_of es) s))))
    put_first o exact k v e es s more Equal h = rw h (sym (put_at k e.0 e.1 v (filled es) h (exact k e.0 h) (put_below k v es (below_equal o k e.0 es h (sorted_head R e.0 (keys_of es) s)))))
    put_first o exact k v e es s more Greater h = rw h (ap (filled_cons e.0 e.1) more ∙ sym (put_past k e.0 e.1 v (filled es) h))

    -- what is put in a place is put among the entries
    pub filled-put : IsTotalOrder R → CmpEqualImpliesEq R → (k : K) (v : Option V) (es : List (K × Option V)) → IsStrictlySortedBy R (keys_of es) → filled (insert_entry R es k v) ≡ put_entry R (filled es) k v
    filled-put o exact k None [] s = refl
    filled-put o exact k (Some v) [] s = refl
    filled-put o exact k v (e ∷ es) s = put_first o exact k v e es s (filled-put o exact k v es (sorted_tail R e.0 (keys_of es) s)) (R k e.0) refl

    set_first : IsTotalOrder R → (k : K) (v : Option V) (e : K × Option V) (es : List (K × Option V)) → IsStrictlySortedBy R (keys_of (e ∷ es)) → (is_some (lookup (is_at (R k)) es) ≡ true → set_value (is_at (R k)) es v ≡ insert_entry R es k v) → is_some (lookup (is_at (R k)) (e ∷ es)) ≡ true → (r : Ordering) → R k e.0 ≡ r → set_value (is_at (R k)) (e ∷ es) v ≡ insert_entry R (e ∷ es) k v
    set_first o k v e es s more t Less h =
        let none : lookup (is_at (R k)) es ≡ None = none_below k es (below_less o k e.0 es h (sorted_head R e.0 (keys_of es) s)) in
        let p = rw (h, none) at t in
        cc
    set_first o k v e es s more t Equal h = rw h refl
    set_first o k v e es s more t Greater h = rw h (ap (λ xs. e ∷ xs) (more (rw h at t)))

    -- what is written in a place that is found is as if put there
    set_insert : IsTotalOrder R → (k : K) (v : Option V) (es : List (K × Option V)) → IsStrictlySortedBy R (keys_of es) → is_some (lookup (is_at (R k)) es) ≡ true → set_value (is_at (R k)) es v ≡ insert_entry R es k v
    set_insert o k v [] s t = cc
    set_insert o k v (e ∷ es) s t = set_first o k v e es s (set_insert o k v es (sorted_tail R e.0 (keys_of es) s)) t (R k e.0) refl

    -- what is written in a place is put among the entries
    pub filled-set : IsTotalOrder R → CmpEqualImpliesEq R → (k : K) (v : Option V) (es : List (K × Option V)) → IsStrictlySortedBy R (keys_of es) → is_some (lookup (is_at (R k)) es) ≡ true → filled (set_value (is_at (R k)) es v) ≡ put_entry R (filled es) k v
    filled-set o exact k v es s t = ap filled (set_insert o k v es s t) ∙ filled-put o exact k v es s

    count_first : IsTotalOrder R → (k : K) (v : Option V) (e : K × Option V) (es : List (K × Option V)) → IsStrictlySortedBy R (keys_of (e ∷ es)) → length (filled (insert_entry R es k v)) + held (lookup (is_at (R k)) (filled es)) ≡ length (filled es) + held v → (r : Ordering) → R k e.0 ≡ r → length (filled (insert_entry R (e ∷ es) k v)) + held (lookup (is_at (R k)) (filled (e ∷ es))) ≡ length (filled (e ∷ es)) + held v
    count_first o k v e es s more Less h =
        let none : lookup (is_at (R k)) (filled (e ∷ es)) ≡ None = lookup_below k (e ∷ es) (h, below_less o k e.0 es h (sorted_head R e.0 (keys_of es) s)) in
        rw (h, none) (let l = length_cons k v (filled (e ∷ es)) in omega arith)
    count_first o k v e es s more Equal h =
        let at : lookup (is_at (R k)) (filled (e ∷ es)) ≡ e.1 = lookup_at (is_at (R k)) e.0 e.1 (filled es) (ap is_eq h) (lookup_below k es (below_equal o k e.0 es h (sorted_head R e.0 (keys_of es) s))) in
        rw (h, at) (let l = length_cons e.0 v (filled es) in let m = length_cons e.0 e.1 (filled es) in omega arith)
    count_first o k v e es s more Greater h =
        let past : lookup (is_at (R k)) (filled (e ∷ es)) ≡ lookup (is_at (R k)) (filled es) = lookup_past (is_at (R k)) e.0 e.1 (filled es) (ap is_eq h) in
        rw (h, past) (let l = length_cons e.0 e.1 (filled (insert_entry R es k v)) in let m = length_cons e.0 e.1 (filled es) in omega arith)

    -- how many values there are once one is put in a place
    pub count-put : IsTotalOrder R → (k : K) (v : Option V) (es : List (K × Option V)) → IsStrictlySortedBy R (keys_of es) → length (filled (insert_entry R es k v)) + held (lookup (is_at (R k)) (filled es)) ≡ length (filled es) + held v
    count-put o k v [] s = let l = length_cons k v [] in omega arith
    count-put o k v (e ∷ es) s = count_first o k v e es s (count-put o k v es (sorted_tail R e.0 (keys_of es) s)) (R k e.0) refl
