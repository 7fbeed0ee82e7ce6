-- Places by number: a vector, and a tree behind it.
use Rattle.std.proofs.Common.{◌≡◌, ℕ, zero, suc, ◌+◌, ◌-◌, ◌<◌, ◌≤◌, Bool, true, false, cond, ◌||◌, IsTrue, List, [], ◌∷◌, ◌++◌, length, slice_get, slice_set, slice_index_or, Option, None, Some, Result, Ok, Err, OnOk, OnErr, is_some, Ordering, refl, sym, ap, ◌∙◌, subst, arith}
use Rattle.std.specs.declared.cmp.Ordering.TheVariants.{Less, Equal, Greater}
use Rattle.std.specs.Ordering.{nat_cmp, is_eq}
use Rattle.std.specs.List.{AllByRecursion}
use Rattle.std.specs.List.Sorted.{IsStrictlySortedBy}
use Rattle.std.specs.BTreeMap.{insert_entry, is_at}
use Rattle.std.specs.Map.{lookup, keys_of, values_of}
use Rattle.std.proofs.lemmas.Cmp.{ranked, nat_cmp_total}
use Rattle.std.proofs.lemmas.Option.{same_Some, slice_get-get_or}
use Rattle.std.proofs.lemmas.Map.Lookups.{CmpEqualImpliesEq}
use Rattle.rr_registry.specs.Places.{filled, has_place, put_entry}
use Rattle.rr_registry.specs.Numbered.{numbered, AscendFrom, IsFirst}
use Rattle.rr_registry.proofs.PlaceLemmas.{lookup-filled, filled-put, filled-free, joined}

at_less : (k i : ℕ) → k < i → nat_cmp k i ≡ Less
at_less k i l = at (nat_cmp k i) refl
  where
    at : (r : Ordering) → nat_cmp k i ≡ r → r ≡ Less
    at Less e = refl
    at Equal e = let m = ranked k i Equal (sym e) in absurd (omega (arith, l, m))
    at Greater e = let m = ranked k i Greater (sym e) in absurd (omega (arith, l, m))

at_greater : (k i : ℕ) → i < k → nat_cmp k i ≡ Greater
at_greater k i l = at (nat_cmp k i) refl
  where
    at : (r : Ordering) → nat_cmp k i ≡ r → r ≡ Greater
    at Less e = let m = ranked k i Less (sym e) in absurd (omega (arith, l, m))
    at Equal e = let m = ranked k i Equal (sym e) in absurd (omega (arith, l, m))
    at Greater e = refl

at_equal : (k : ℕ) → nat_cmp k k ≡ Equal
at_equal k = at (nat_cmp k k) refl
  where
    at : (r : Ordering) → nat_cmp k k ≡ r → r ≡ Equal
    at Less e = let m = ranked k k Less (sym e) in absurd (omega (arith, m))
    at Equal e = refl
    at Greater e = let m = ranked k k Greater (sym e) in absurd (omega (arith, m))

pub exact_numbers : CmpEqualImpliesEq nat_cmp
exact_numbers k q e = ranked k q Equal (sym e)

abbrev has_key : {V : Type 0} → List (ℕ × V) → ℕ → Bool
has_key es q = is_some (lookup (is_at (nat_cmp q)) es)

module _ {V : Type 0} where
  low_by : (i k : ℕ) (x : V) (xs : List V) (high : List (ℕ × V)) → i ≤ k → k < i + length (x ∷ xs) → (i + 1 ≤ k → k < i + 1 + length xs → lookup (is_at (nat_cmp k)) (numbered (i + 1) xs ++ high) ≡ slice_get xs (k - (i + 1))) → (r : Ordering) → nat_cmp k i ≡ r → lookup (is_at (nat_cmp k)) (numbered i (x ∷ xs) ++ high) ≡ slice_get (x ∷ xs) (k - i)
  low_by i k x xs high a b more Less e = let l = ranked k i Less (sym e) in absurd (omega (arith, a, l))
  low_by i k x xs high a b more Equal e =
      let s : k ≡ i = ranked k i Equal (sym e) in
      let z : k - i ≡ 0 = omega (arith, s) in
      rw (e, z) refl
  low_by i k x xs high a b more Greater e =
      let l : i < k = ranked k i Greater (sym e) in
      let z : k - i ≡ suc (k - (i + 1)) = omega (arith, l) in
      rw (e, z) (more (omega (arith, l)) (omega (arith, b)))

  -- a number of the vector is found there
  pub lookup_low : (i k : ℕ) (low : List V) (high : List (ℕ × V)) → i ≤ k → k < i + length low → lookup (is_at (nat_cmp k)) (numbered i low ++ high) ≡ slice_get low (k - i)
  lookup_low i k [] high a b = absurd (omega (arith, a, b))
  lookup_low i k (x ∷ xs) high a b = low_by i k x xs high a b (lookup_low (i + 1) k xs high) (nat_cmp k i) refl

  -- and another one behind it
  pub lookup_high : (i k : ℕ) (low : List V) (high : List (ℕ × V)) → i + length low ≤ k → lookup (is_at (nat_cmp k)) (numbered i low ++ high) ≡ lookup (is_at (nat_cmp k)) high
  lookup_high i k [] high a = refl
  lookup_high i k (x ∷ xs) high a = rw (at_greater k i (omega (arith, a))) (lookup_high (i + 1) k xs high (omega (arith, a)))

  set_by : (i k : ℕ) (v x : V) (xs : List V) (high : List (ℕ × V)) → i ≤ k → k < i + length (x ∷ xs) → (i + 1 ≤ k → k < i + 1 + length xs → insert_entry nat_cmp (numbered (i + 1) xs ++ high) k v ≡ numbered (i + 1) (slice_set xs (k - (i + 1)) v) ++ high) → (r : Ordering) → nat_cmp k i ≡ r → insert_entry nat_cmp (numbered i (x ∷ xs) ++ high) k v ≡ numbered i (slice_set (x ∷ xs) (k - i) v) ++ high
  set_by i k v x xs high a b more Less e = let l = ranked k i Less (sym e) in absurd (omega (arith, a, l))
  set_by i k v x xs high a b more Equal e =
      let s : k ≡ i = ranked k i Equal (sym e) in
      let z : k - i ≡ 0 = omega (arith, s) in
      rw (e, z) refl
  set_by i k v x xs high a b more Greater e =
      let l : i < k = ranked k i Greater (sym e) in
      let z : k - i ≡ suc (k - (i + 1)) = omega (arith, l) in
      rw (e, z) (ap (λ es. (i, x) ∷ es) (more (omega (arith, l)) (omega (arith, b))))

  insert_low : (i k : ℕ) (v : V) (low : List V) (high : List (ℕ × V)) → i ≤ k → k < i + length low → insert_entry nat_cmp (numbered i low ++ high) k v ≡ numbered i (slice_set low (k - i) v) ++ high
  insert_low i k v [] high a b = absurd (omega (arith, a, b))
  insert_low i k v (x ∷ xs) high a b = set_by i k v x xs high a b (insert_low (i + 1) k v xs high) (nat_cmp k i) refl

  -- a place of the vector is written there
  pub set_low : (k : ℕ) (v : V) (low : List V) (high : List (ℕ × V)) → k < length low → numbered 0 (slice_set low k v) ++ high ≡ insert_entry nat_cmp (numbered 0 low ++ high) k v
  set_low k v low high l =
      let z : k - 0 ≡ k = omega arith in
      ap (λ n. numbered 0 (slice_set low n v) ++ high) (sym z) ∙ sym (insert_low 0 k v low high (omega arith) (omega (arith, l)))

  -- and another one behind it
  pub insert_high : (i k : ℕ) (v : V) (low : List V) (high : List (ℕ × V)) → i + length low ≤ k → insert_entry nat_cmp (numbered i low ++ high) k v ≡ numbered i low ++ insert_entry nat_cmp high k v
  insert_high i k v [] high a = refl
  insert_high i k v (x ∷ xs) high a = rw (at_greater k i (omega (arith, a))) (ap (λ es. (i, x) ∷ es) (insert_high (i + 1) k v xs high (omega (arith, a))))

  numbered_push : (i : ℕ) (v : V) (low : List V) (high : List (ℕ × V)) → numbered i (low ++ v ∷ []) ++ high ≡ numbered i low ++ (i + length low, v) ∷ high
  numbered_push i v [] high = ap (λ k. (k, v) ∷ high) (omega arith)
  numbered_push i v (x ∷ xs) high = ap (λ es. (i, x) ∷ es) (numbered_push (i + 1) v xs high ∙ ap (λ k. numbered (i + 1) xs ++ (k, v) ∷ high) (omega arith))

  insert_first : (k : ℕ) (v : V) (es : List (ℕ × V)) → AscendFrom (k + 1) es → insert_entry nat_cmp es k v ≡ (k, v) ∷ es
  insert_first k v [] h = refl
  insert_first k v (e ∷ es) h = let l = h.0 in rw (at_less k e.0 (omega (arith, l))) refl

  -- where the first number isn't there, all lie behind it
  behind : (k : ℕ) (es : List (ℕ × V)) → AscendFrom k es → is_some (lookup (is_at (nat_cmp k)) es) ≡ false → AscendFrom (k + 1) es
  behind k [] h n = tt
  behind k (e ∷ es) h n = at (nat_cmp k e.0) refl
    where
      at : (r : Ordering) → nat_cmp k e.0 ≡ r → AscendFrom (k + 1) (e ∷ es)
      at Less r = let l : k < e.0 = ranked k e.0 Less (sym r) in (omega (arith, l), h.1)
      at Equal r = let m : is_some (Some e.1) ≡ false = rw r at n in cc
      at Greater r = let l : e.0 < k = ranked k e.0 Greater (sym r) in let g = h.0 in absurd (omega (arith, l, g))

  length_push : (v : V) (low : List V) → length (low ++ v ∷ []) ≡ length low + 1
  length_push v [] = refl
  length_push v (x ∷ xs) = let l = length_push v xs in omega (arith, l)

  -- a number that is next in turn goes behind the vector
  pub pushed : (k : ℕ) (v : V) (low : List V) (high : List (ℕ × V)) → k ≡ length low → AscendFrom (length low) high → is_some (lookup (is_at (nat_cmp k)) high) ≡ false → (numbered 0 (low ++ v ∷ []) ++ high ≡ insert_entry nat_cmp (numbered 0 low ++ high) k v) × AscendFrom (length (low ++ v ∷ [])) high
  pushed k v low high e h n =
      let more : AscendFrom (k + 1) high = behind k high (subst (λ m. AscendFrom m high) (sym e) h) n in
      let z : 0 + length low ≡ k = omega (arith, e) in (
        numbered_push 0 v low high ∙ ap (λ m. numbered 0 low ++ (m, v) ∷ high) z
            ∙ ap (λ es. numbered 0 low ++ es) (sym (insert_first k v high more)) ∙ sym (insert_high 0 k v low high (omega (arith, e))),
        subst (λ m. AscendFrom m high) (ap (λ m. m + 1) e ∙ sym (length_push v low)) more,
      )

  pub ascend_insert : (low k : ℕ) (v : V) (es : List (ℕ × V)) → low ≤ k → AscendFrom low es → AscendFrom low (insert_entry nat_cmp es k v)
  ascend_insert low k v [] l h = (l, tt)
  ascend_insert low k v (e ∷ es) l h = at (λ m. ascend_insert (e.0 + 1) k v es m h.1) (nat_cmp k e.0) refl
    where
      at : (e.0 + 1 ≤ k → AscendFrom (e.0 + 1) (insert_entry nat_cmp es k v)) → (r : Ordering) → nat_cmp k e.0 ≡ r → AscendFrom low (insert_entry nat_cmp (e ∷ es) k v)
      at more Less r = let b : k < e.0 = ranked k e.0 Less (sym r) in rw r (l, (omega (arith, b), h.1))
      at more Equal r = rw r (h.0, h.1)
      at more Greater r = let b : e.0 < k = ranked k e.0 Greater (sym r) in rw r (h.0, more (omega (arith, b)))

  below_from : (i j : ℕ) (es : List (ℕ × V)) → j < i → AscendFrom i es → AllByRecursion (λ y. nat_cmp j y ≡ Less) (keys_of es)
  below_from i j [] l h = tt
  below_from i j (e ∷ es) l h = let k = h.0 in (at_less j e.0 (omega (arith, l, k)), below_from (e.0 + 1) j es (omega (arith, l, k)) h.1)

  pub sorted_high : (i : ℕ) (es : List (ℕ × V)) → AscendFrom i es → IsStrictlySortedBy nat_cmp (keys_of es)
  unfolding IsStrictlySortedBy
  sorted_high i [] h = tt
  sorted_high i (e ∷ es) h = (below_from (e.0 + 1) e.0 es (omega arith) h.1, sorted_high (e.0 + 1) es h.1)

  ascend_all : (i : ℕ) (low : List V) (high : List (ℕ × V)) → AscendFrom (i + length low) high → AscendFrom i (numbered i low ++ high)
  ascend_all i [] high h = subst (λ m. AscendFrom m high) (omega arith) h
  ascend_all i (x ∷ xs) high h = (omega arith, ascend_all (i + 1) xs high (subst (λ m. AscendFrom m high) (omega arith) h))

  -- all numbers are in order
  pub sorted_all : (low : List V) (high : List (ℕ × V)) → AscendFrom (length low) high → IsStrictlySortedBy nat_cmp (keys_of (numbered 0 low ++ high))
  sorted_all low high h = sorted_high 0 (numbered 0 low ++ high) (ascend_all 0 low high (subst (λ m. AscendFrom m high) (omega arith) h))

  pub first_is : (es : List (ℕ × V)) (k : ℕ) (e : ℕ × V) → slice_get es 0 ≡ Some e → e.0 ≡ k → IsFirst k es
  first_is [] k e h s = cc
  first_is (x ∷ xs) k e h s = ap (λ (y : ℕ × V). y.0) (same_Some x e h) ∙ s

  -- the tree's first place goes behind the vector, where it is next in turn
  pub moved : (low : List V) (high rest : List (ℕ × V)) (e : ℕ × V) → IsFirst (length low) high → AscendFrom (length low) high → high ≡ e ∷ rest → (numbered 0 (low ++ e.1 ∷ []) ++ rest ≡ numbered 0 low ++ high) × AscendFrom (length (low ++ e.1 ∷ [])) rest
  moved low high rest e f a h =
      let k : e.0 ≡ length low = subst (IsFirst (length low)) h f in
      let z : 0 + length low ≡ e.0 = omega (arith, k) in
      let b : AscendFrom (length low) (e ∷ rest) = subst (AscendFrom (length low)) h a in (
        numbered_push 0 e.1 low rest ∙ ap (λ m. numbered 0 low ++ (m, e.1) ∷ rest) z ∙ ap (λ es. numbered 0 low ++ es) (sym h),
        subst (λ m. AscendFrom m rest) (ap (λ m. m + 1) k ∙ sym (length_push e.1 low)) b.1,
      )

-- the values of the places that have one
abbrev pub present : {V : Type 0} → List (Option V) → List V
present [] = []
present (None ∷ xs) = present xs
present (Some v ∷ xs) = v ∷ present xs

module _ {V : Type 0} where
  pub values_all : (i : ℕ) (low : List (Option V)) (high : List (ℕ × Option V)) → values_of (filled (numbered i low ++ high)) ≡ present low ++ values_of (filled high)
  values_all i [] high = refl
  values_all i (None ∷ xs) high = values_all (i + 1) xs high
  values_all i (Some v ∷ xs) high = ap (λ vs. v ∷ vs) (values_all (i + 1) xs high)

  -- what a number's place holds, where the vector has it and where the tree has it
  pub value_low : (k : ℕ) (low : List (Option V)) (high : List (ℕ × Option V)) (o : Option V) → AscendFrom (length low) high → o ≡ slice_index_or low k o → k < length low → lookup (is_at (nat_cmp k)) (filled (numbered 0 low ++ high)) ≡ o
  value_low k low high o h g l =
      let z : k - 0 ≡ k = omega arith in
      lookup-filled nat_cmp nat_cmp_total k (numbered 0 low ++ high) (sorted_all low high h)
      ∙ ap joined (lookup_low 0 k low high (omega arith) (omega (arith, l)) ∙ ap (slice_get low) z ∙ slice_get-get_or low k o l) ∙ sym g

  pub value_high : (k : ℕ) (low : List (Option V)) (high : List (ℕ × Option V)) → AscendFrom (length low) high → length low ≤ k → lookup (is_at (nat_cmp k)) (filled (numbered 0 low ++ high)) ≡ lookup (is_at (nat_cmp k)) (filled high)
  value_high k low high h l =
      lookup-filled nat_cmp nat_cmp_total k (numbered 0 low ++ high) (sorted_all low high h)
      ∙ ap joined (lookup_high 0 k low high (omega (arith, l))) ∙ sym (lookup-filled nat_cmp nat_cmp_total k high (sorted_high (length low) high h))

module _ {V : Type 0} where
  some_places : (low : List (Option V)) (k : ℕ) → k < length low → is_some (slice_get low k) ≡ true
  some_places [] k l = absurd (omega (arith, l))
  some_places (x ∷ xs) zero l = refl
  some_places (x ∷ xs) (suc k) l = some_places xs k (omega (arith, l))

  -- whether a number has a place
  pub place_low : (k : ℕ) (low : List (Option V)) (high : List (ℕ × Option V)) → k < length low → has_place nat_cmp (numbered 0 low ++ high) k ≡ true
  place_low k low high l =
      let z : k - 0 ≡ k = omega arith in
      ap (λ (o : Option (Option V)). is_some o) (lookup_low 0 k low high (omega arith) (omega (arith, l)) ∙ ap (slice_get low) z) ∙ some_places low k l

  pub place_high : (k : ℕ) (low : List (Option V)) (high : List (ℕ × Option V)) → length low ≤ k → has_place nat_cmp (numbered 0 low ++ high) k ≡ has_place nat_cmp high k
  place_high k low high l = ap (λ (o : Option (Option V)). is_some o) (lookup_high 0 k low high (omega (arith, l)))

pub none_of : {V : Type 0} → (o : Option V) → is_some o ≡ false → o ≡ None
none_of None h = refl
none_of (Some v) h = cc

some_cond : {V : Type 0} → (b : Bool) (v : V) (o : Option V) → is_some (cond b (Some v) o) ≡ (b || is_some o)
some_cond true v o = refl
some_cond false v o = refl

or_twice : (a b : Bool) → (a || b) ≡ (a || (a || b))
or_twice true b = refl
or_twice false b = refl

or_swap : (a b c : Bool) → (a || (b || c)) ≡ (b || (a || c))
or_swap true true c = refl
or_swap true false c = refl
or_swap false b c = refl

or_right : (a b : Bool) → b ≡ true → (a || b) ≡ true
or_right true b h = refl
or_right false b h = h

module _ {V : Type 0} where
  -- a number has a place where it was made, or had one before
  places_inserted : (k q : ℕ) (v : V) (es : List (ℕ × V)) → has_key (insert_entry nat_cmp es k v) q ≡ (is_eq (nat_cmp q k) || has_key es q)
  places_inserted k q v [] = some_cond (is_eq (nat_cmp q k)) v None
  places_inserted k q v (e ∷ es) = at (places_inserted k q v es) (nat_cmp k e.0) refl
    where
      at : has_key (insert_entry nat_cmp es k v) q ≡ (is_eq (nat_cmp q k) || has_key es q) → (r : Ordering) → nat_cmp k e.0 ≡ r → has_key (insert_entry nat_cmp (e ∷ es) k v) q ≡ (is_eq (nat_cmp q k) || has_key (e ∷ es) q)
      at more Less r = rw r (some_cond (is_eq (nat_cmp q k)) v (lookup (is_at (nat_cmp q)) (e ∷ es)))
      at more Equal r =
          let same : k ≡ e.0 = ranked k e.0 Equal (sym r) in
          rw (r, same)
          (some_cond (is_eq (nat_cmp q e.0)) v (lookup (is_at (nat_cmp q)) es) ∙ or_twice (is_eq (nat_cmp q e.0)) (has_key es q)
          ∙ ap (λ b. is_eq (nat_cmp q e.0) || b) (sym (some_cond (is_eq (nat_cmp q e.0)) e.1 (lookup (is_at (nat_cmp q)) es))))
      at more Greater r =
          rw r
          (some_cond (is_eq (nat_cmp q e.0)) e.1 (lookup (is_at (nat_cmp q)) (insert_entry nat_cmp es k v)) ∙ ap (λ b. is_eq (nat_cmp q e.0) || b) more
          ∙ or_swap (is_eq (nat_cmp q e.0)) (is_eq (nat_cmp q k)) (has_key es q)
          ∙ ap (λ b. is_eq (nat_cmp q k) || b) (sym (some_cond (is_eq (nat_cmp q e.0)) e.1 (lookup (is_at (nat_cmp q)) es))))

module _ {V : Type 0} where
  pub place_made : (k : ℕ) (v : Option V) (es : List (ℕ × Option V)) → IsTrue (has_place nat_cmp (insert_entry nat_cmp es k v) k)
  place_made k v es = places_inserted k k v es ∙ ap (λ r. is_eq r || has_place nat_cmp es k) (at_equal k)

  pub place_kept : (k q : ℕ) (v : Option V) (es : List (ℕ × Option V)) → IsTrue (has_place nat_cmp es q) → IsTrue (has_place nat_cmp (insert_entry nat_cmp es k v) q)
  place_kept k q v es h = places_inserted k q v es ∙ or_right (is_eq (nat_cmp q k)) (has_place nat_cmp es q) h

  pub place_same : (k q : ℕ) (v : Option V) (es : List (ℕ × Option V)) → IsTrue (has_place nat_cmp es k) → has_place nat_cmp (insert_entry nat_cmp es k v) q ≡ has_place nat_cmp es q
  place_same k q v es h = places_inserted k q v es ∙ at (nat_cmp q k) refl
    where
      at : (r : Ordering) → nat_cmp q k ≡ r → (is_eq (nat_cmp q k) || has_place nat_cmp es q) ≡ has_place nat_cmp es q
      at Less r = rw r refl
      at Equal r = rw (r, ranked q k Equal (sym r)) (sym h)
      at Greater r = rw r refl

  -- what is written is put among the values
  pub value_put : (k : ℕ) (v : V) (es : List (ℕ × Option V)) → IsStrictlySortedBy nat_cmp (keys_of es) → filled (insert_entry nat_cmp es k (Some v)) ≡ put_entry nat_cmp (filled es) k (Some v)
  value_put k v es s = filled-put nat_cmp nat_cmp_total exact_numbers k (Some v) es s

  pub free_put : (k : ℕ) (es : List (ℕ × Option V)) → has_place nat_cmp es k ≡ false → filled (insert_entry nat_cmp es k None) ≡ filled es
  free_put k es n = filled-free nat_cmp k es (none_of (lookup (is_at (nat_cmp k)) es) n)

pub on_ok : {A E : Type 0} {P Q : Type 0} → (r : Result A E) → (P → Q) → OnOk r P → OnOk r Q
on_ok (Ok a) f h = f h
on_ok (Err e) f h = tt

pub both_ways : {A E : Type 0} {P Q S : Type 0} → (r : Result A E) → (P → S) → (Q → S) → OnOk r P → OnErr r Q → S
both_ways (Ok a) f g h k = f h
both_ways (Err e) f g h k = g k
