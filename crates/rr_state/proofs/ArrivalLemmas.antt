-- Values in order of arrival: a value put last, and one that goes.
use Rattle.std.proofs.Common.{◌≡◌, ℕ, ◌+◌, ◌≤◌, Bool, true, false, cond, not, ◌==◌, nat_lt, List, [], ◌∷◌, ◌++◌, filter, Option, None, Some, is_some, refl, ap, sym, ◌∙◌, subst, arith}
use Rattle.std.specs.List.{list_any}
use Rattle.std.specs.Ordering.{is_eq, nat_cmp}
use Rattle.std.specs.BTreeMap.{insert_entry, is_at}
use Rattle.std.specs.Map.{lookup, remove_entry}
use Rattle.std.proofs.lemmas.Bool.{le-ltb, ne_eqb, eq-eqb}
use Rattle.std.proofs.lemmas.List.{same_from_push}
use Rattle.std.proofs.lemmas.Option.{none-some, same_Some}
use Rattle.rr_types.specs.declared.command.RequestNo.{RequestNo}
use Rattle.rr_types.specs.Registry.{is_same_request}
use Rattle.rr_registry.specs.Kept.{request_cmp}
use Rattle.rr_registry.proofs.TableLemmas.{eq-request_cmp}
use Rattle.rr_model.proofs.SameCommands.{same_request, request_same}
use Rattle.rr_state.specs.Arrived.{without_first, seconds, AreNumbered, arrival_of, AreOnce, IsIndexed}

-- requests that differ one way differ the other way
other_request : (p q : RequestNo) → is_same_request p q ≡ false → is_same_request q p ≡ false
other_request p q h = at (is_same_request q p) refl
  where
    at : (b : Bool) → is_same_request q p ≡ b → is_same_request q p ≡ false
    at false e = e
    at true e = let x : is_same_request p q ≡ true = subst (λ z. is_same_request p z ≡ true) (sym (same_request q p e)) (request_same p) in cc

-- what is looked for under the request's own number
at_request : (p q : RequestNo) (b : Bool) → is_same_request p q ≡ b → is_at (request_cmp p) q ≡ b
at_request p q b h = eq-request_cmp p q ∙ h

module _ {V : Type 0} where
  numbered_end : (low n : ℕ) (es : List (ℕ × V)) → AreNumbered low es n → low ≤ n
  numbered_end low n [] h = h
  numbered_end low n (e ∷ es) h = let m = numbered_end (e.0 + 1) n es h.1 in let l = h.0 in omega arith

  numbered_lower : (low high n : ℕ) (es : List (ℕ × V)) → low ≤ high → AreNumbered high es n → AreNumbered low es n
  numbered_lower low high n [] l h = omega arith
  numbered_lower low high n (e ∷ es) l h = let k = h.0 in (omega arith, h.1)

  -- a new number goes last
  pub put_last : (low n : ℕ) (v : V) (es : List (ℕ × V)) → AreNumbered low es n → insert_entry nat_cmp es n v ≡ es ++ (n, v) ∷ []
  put_last low n v [] h = refl
  put_last low n v (e ∷ es) h =
      let m = numbered_end (e.0 + 1) n es h.1 in
      let less : nat_lt n e.0 ≡ false = le-ltb _ _ (omega arith) in
      let same : (n == e.0) ≡ false = ne_eqb _ _ (λ x. omega (arith, x)) in
      rw (less, same) (ap (λ xs. e ∷ xs) (put_last (e.0 + 1) n v es h.1))

  pub numbered_push : (low n : ℕ) (v : V) (es : List (ℕ × V)) → AreNumbered low es n → AreNumbered low (es ++ (n, v) ∷ []) (n + 1)
  numbered_push low n v [] h = (h, omega arith)
  numbered_push low n v (e ∷ es) h = (h.0, numbered_push (e.0 + 1) n v es h.1)

  pub numbered_front : (low n : ℕ) (p : ℕ × V) (es : List (ℕ × V)) → AreNumbered low (es ++ p ∷ []) n → AreNumbered low es n
  numbered_front low n p [] h = let k = h.0 in let l = h.1 in omega arith
  numbered_front low n p (e ∷ es) h = (h.0, numbered_front (e.0 + 1) n p es h.1)

  numbered_by : (low n : ℕ) (t : ℕ → Bool) (e : ℕ × V) (es : List (ℕ × V)) → AreNumbered low (e ∷ es) n → AreNumbered (e.0 + 1) (remove_entry t es) n → (b : Bool) → t e.0 ≡ b → AreNumbered low (remove_entry t (e ∷ es)) n
  numbered_by low n t e es h more true a = let k = h.0 in rw a (numbered_lower low (e.0 + 1) n es (omega arith) h.1)
  numbered_by low n t e es h more false a = rw a (h.0, more)

  -- what is left after one goes
  pub numbered_remove : (low n : ℕ) (t : ℕ → Bool) (es : List (ℕ × V)) → AreNumbered low es n → AreNumbered low (remove_entry t es) n
  numbered_remove low n t [] h = h
  numbered_remove low n t (e ∷ es) h = numbered_by low n t e es h (numbered_remove (e.0 + 1) n t es h.1) (t e.0) refl

  pub seconds_push : (es : List (ℕ × V)) (p : ℕ × V) → seconds (es ++ p ∷ []) ≡ seconds es ++ p.1 ∷ []
  seconds_push [] p = refl
  seconds_push (e ∷ es) p = ap (λ vs. e.1 ∷ vs) (seconds_push es p)

  -- without the last one
  pub seconds_front : (es : List (ℕ × V)) (p : ℕ × V) (vs : List V) (v : V) → seconds (es ++ p ∷ []) ≡ vs ++ v ∷ [] → seconds es ≡ vs
  seconds_front es p vs v h = (same_from_push (seconds es) vs p.1 v (sym (seconds_push es p) ∙ h)).0

  module _ (request_of : V → RequestNo) where
    abbrev pub is_of : RequestNo → V → Bool
    is_of q v = is_same_request (request_of v) q

    has_by : (e : ℕ × V) (es : List (ℕ × V)) (q : RequestNo) → is_some (arrival_of request_of es q) ≡ list_any (is_of q) (seconds es) → (b : Bool) → is_of q e.1 ≡ b → is_some (arrival_of request_of (e ∷ es) q) ≡ list_any (is_of q) (seconds (e ∷ es))
    has_by e es q more true h = rw h
    has_by e es q more false h = rw h more

    -- a request has arrived where a value has its number
    pub has_arrived : (es : List (ℕ × V)) (q : RequestNo) → is_some (arrival_of request_of es q) ≡ list_any (is_of q) (seconds es)
    has_arrived [] q = refl
    has_arrived (e ∷ es) q = has_by e es q (has_arrived es q) (is_of q e.1) refl

    none_of : (o : Option ℕ) → is_some o ≡ false → o ≡ None
    none_of None h = refl
    none_of (Some a) h = cc

    pub not_arrived : (es : List (ℕ × V)) (q : RequestNo) → list_any (is_of q) (seconds es) ≡ false → arrival_of request_of es q ≡ None
    not_arrived es q h = none_of (arrival_of request_of es q) (has_arrived es q ∙ h)

    -- the first of more values has another request
    none_first : (e : ℕ × V) (es : List (ℕ × V)) (q : RequestNo) → arrival_of request_of (e ∷ es) q ≡ None → (is_of q e.1 ≡ false) × (arrival_of request_of es q ≡ None)
    none_first e es q h = at (is_of q e.1) refl h
      where
        at : (b : Bool) → is_of q e.1 ≡ b → cond b (Some e.0) (arrival_of request_of es q) ≡ None → (is_of q e.1 ≡ false) × (arrival_of request_of es q ≡ None)
        at true a x = absurd (none-some e.0 (sym x))
        at false a x = (a, x)

    none_push : (es : List (ℕ × V)) (p : ℕ × V) (q : RequestNo) → arrival_of request_of es q ≡ None → is_of q p.1 ≡ false → arrival_of request_of (es ++ p ∷ []) q ≡ None
    none_push [] p q h o = rw o
    none_push (e ∷ es) p q h o = let f = none_first e es q h in rw f.0 (none_push es p q f.1 o)

    none_front : (es : List (ℕ × V)) (p : ℕ × V) (q : RequestNo) → arrival_of request_of (es ++ p ∷ []) q ≡ None → (arrival_of request_of es q ≡ None) × (is_of q p.1 ≡ false)
    none_front [] p q h = (refl, (none_first p [] q h).0)
    none_front (e ∷ es) p q h =
        let f = none_first e (es ++ p ∷ []) q h in
        let more = none_front es p q f.1 in
        (rw f.0 more.0, more.1)

    pub once_push : (es : List (ℕ × V)) (p : ℕ × V) → AreOnce request_of es → arrival_of request_of es (request_of p.1) ≡ None → AreOnce request_of (es ++ p ∷ [])
    once_push [] p h n = (refl, tt)
    once_push (e ∷ es) p h n =
        let f = none_first e es (request_of p.1) n in
        (none_push es p (request_of e.1) h.0 (other_request (request_of e.1) (request_of p.1) f.0), once_push es p h.1 f.1)

    pub once_front : (es : List (ℕ × V)) (p : ℕ × V) → AreOnce request_of (es ++ p ∷ []) → AreOnce request_of es
    once_front [] p h = tt
    once_front (e ∷ es) p h = ((none_front es p (request_of e.1) h.0).0, once_front es p h.1)

    none_by : (t : ℕ → Bool) (e : ℕ × V) (es : List (ℕ × V)) (q : RequestNo) → is_of q e.1 ≡ false → arrival_of request_of es q ≡ None → arrival_of request_of (remove_entry t es) q ≡ None → (b : Bool) → t e.0 ≡ b → arrival_of request_of (remove_entry t (e ∷ es)) q ≡ None
    none_by t e es q o h more true a = rw a h
    none_by t e es q o h more false a = rw (a, o) more

    none_remove : (t : ℕ → Bool) (es : List (ℕ × V)) (q : RequestNo) → arrival_of request_of es q ≡ None → arrival_of request_of (remove_entry t es) q ≡ None
    none_remove t [] q h = refl
    none_remove t (e ∷ es) q h = let f = none_first e es q h in none_by t e es q f.0 f.1 (none_remove t es q f.1) (t e.0) refl

    once_by : (t : ℕ → Bool) (e : ℕ × V) (es : List (ℕ × V)) → AreOnce request_of (e ∷ es) → AreOnce request_of (remove_entry t es) → (b : Bool) → t e.0 ≡ b → AreOnce request_of (remove_entry t (e ∷ es))
    once_by t e es h more true a = rw a h.1
    once_by t e es h more false a = rw a (none_remove t es (request_of e.1) h.0, more)

    pub once_remove : (t : ℕ → Bool) (es : List (ℕ × V)) → AreOnce request_of es → AreOnce request_of (remove_entry t es)
    once_remove t [] h = tt
    once_remove t (e ∷ es) h = once_by t e es h (once_remove t es h.1) (t e.0) refl

    same_none : (es : List (ℕ × V)) (p q : RequestNo) → is_same_request p q ≡ true → arrival_of request_of es p ≡ None → arrival_of request_of es q ≡ None
    same_none es p q h n = subst (λ z. arrival_of request_of es z ≡ None) (same_request p q h) n

    -- where a request goes whose table entry goes
    abbrev pub Finds : (RequestNo → Option ℕ) → List (ℕ × V) → Type 0
    Finds found es = (q : RequestNo) → found q ≡ arrival_of request_of es q

    push_by : (e p : ℕ × V) (es : List (ℕ × V)) (q : RequestNo) → is_same_request (request_of p.1) (request_of e.1) ≡ false → cond (is_same_request (request_of p.1) q) (Some p.0) (arrival_of request_of es q) ≡ arrival_of request_of (es ++ p ∷ []) q → (a b : Bool) → is_of q e.1 ≡ a → is_of q p.1 ≡ b → cond (is_same_request (request_of p.1) q) (Some p.0) (arrival_of request_of (e ∷ es) q) ≡ arrival_of request_of (e ∷ (es ++ p ∷ [])) q
    push_by e p es q o more true true a b =
        let x : is_same_request (request_of p.1) (request_of e.1) ≡ true = subst (λ z. is_same_request (request_of p.1) z ≡ true) (sym (same_request (request_of e.1) q a)) b in cc
    push_by e p es q o more true false a b = rw (a, b)
    push_by e p es q o more false b a h = rw a more

    -- the table with the new number finds each request
    pub found_push : (es : List (ℕ × V)) (p : ℕ × V) (q : RequestNo) → arrival_of request_of es (request_of p.1) ≡ None → cond (is_same_request (request_of p.1) q) (Some p.0) (arrival_of request_of es q) ≡ arrival_of request_of (es ++ p ∷ []) q
    found_push [] p q n = refl
    found_push (e ∷ es) p q n =
        let f = none_first e es (request_of p.1) n in
        push_by e p es q (other_request (request_of e.1) (request_of p.1) f.0) (found_push es p q f.1) (is_of q e.1) (is_of q p.1) refl refl

    front_by : (e p : ℕ × V) (es : List (ℕ × V)) (q : RequestNo) → is_same_request (request_of p.1) (request_of e.1) ≡ false → cond (is_same_request (request_of p.1) q) None (arrival_of request_of (es ++ p ∷ []) q) ≡ arrival_of request_of es q → (a b : Bool) → is_of q e.1 ≡ a → is_of q p.1 ≡ b → cond (is_same_request (request_of p.1) q) None (arrival_of request_of (e ∷ (es ++ p ∷ [])) q) ≡ arrival_of request_of (e ∷ es) q
    front_by e p es q o more true true a b =
        let x : is_same_request (request_of p.1) (request_of e.1) ≡ true = subst (λ z. is_same_request (request_of p.1) z ≡ true) (sym (same_request (request_of e.1) q a)) b in cc
    front_by e p es q o more true false a b = rw (a, b)
    front_by e p es q o more false b a h = rw a more

    front_end : (p : ℕ × V) (q : RequestNo) (b : Bool) → is_of q p.1 ≡ b → cond (is_same_request (request_of p.1) q) None (arrival_of request_of (p ∷ []) q) ≡ None
    front_end p q true h = rw h
    front_end p q false h = rw h

    -- the table without the last request finds each other one
    pub found_front : (es : List (ℕ × V)) (p : ℕ × V) (q : RequestNo) → AreOnce request_of (es ++ p ∷ []) → cond (is_same_request (request_of p.1) q) None (arrival_of request_of (es ++ p ∷ []) q) ≡ arrival_of request_of es q
    found_front [] p q h = front_end p q (is_of q p.1) refl
    found_front (e ∷ es) p q h =
        let o = (none_front es p (request_of e.1) h.0).1 in
        front_by e p es q o (found_front es p q h.1) (is_of q e.1) (is_of q p.1) refl refl

    arrival_above : (low n : ℕ) (es : List (ℕ × V)) (q : RequestNo) (a : ℕ) → AreNumbered low es n → arrival_of request_of es q ≡ Some a → low ≤ a
    arrival_above low n [] q a h x = absurd (none-some a x)
    arrival_above low n (e ∷ es) q a h x = at (arrival_above (e.0 + 1) n es q a h.1) (is_of q e.1) x
      where
        at : (arrival_of request_of es q ≡ Some a → e.0 + 1 ≤ a) → (b : Bool) → cond b (Some e.0) (arrival_of request_of es q) ≡ Some a → low ≤ a
        at more true y = let z = same_Some e.0 a y in let k = h.0 in omega (arith, z)
        at more false y = let m = more y in let k = h.0 in omega arith

    -- the request that goes stands first, or behind another
    gone_by : (low n : ℕ) (q : RequestNo) (number : ℕ) (e : ℕ × V) (es : List (ℕ × V)) → AreNumbered low (e ∷ es) n → (b : Bool) → is_of q e.1 ≡ b → cond b (Some e.0) (arrival_of request_of es q) ≡ Some number → is_eq (nat_cmp number e.0) ≡ b
    gone_by low n q number e es h true o x =
        let z = same_Some e.0 number x in
        let less : nat_lt number e.0 ≡ false = le-ltb _ _ (omega (arith, z)) in
        let same : (number == e.0) ≡ true = eq-eqb _ _ (sym z) in
        rw (less, same)
    gone_by low n q number e es h false o x =
        let m = arrival_above (e.0 + 1) n es q number h.1 x in
        let less : nat_lt number e.0 ≡ false = le-ltb _ _ (omega arith) in
        let same : (number == e.0) ≡ false = ne_eqb _ _ (λ y. omega (arith, y)) in
        rw (less, same)

    gone_found : (e : ℕ × V) (es : List (ℕ × V)) (p q : RequestNo) → is_of p e.1 ≡ true → arrival_of request_of es (request_of e.1) ≡ None → (b : Bool) → is_same_request p q ≡ b → cond (is_same_request p q) None (arrival_of request_of (e ∷ es) q) ≡ arrival_of request_of es q
    gone_found e es p q h n true a =
        let x : arrival_of request_of es q ≡ None = subst (λ z. arrival_of request_of es z ≡ None) (same_request (request_of e.1) p h ∙ same_request p q a) n in
        rw (a, x)
    gone_found e es p q h n false a =
        let x : is_of q e.1 ≡ false = subst (λ z. is_same_request z q ≡ false) (sym (same_request (request_of e.1) p h)) a in
        rw (a, x)

    kept_found : (e : ℕ × V) (es rest : List (ℕ × V)) (p q : RequestNo) → is_of p e.1 ≡ false → cond (is_same_request p q) None (arrival_of request_of es q) ≡ arrival_of request_of rest q → (a b : Bool) → is_same_request p q ≡ a → is_of q e.1 ≡ b → cond (is_same_request p q) None (arrival_of request_of (e ∷ es) q) ≡ arrival_of request_of (e ∷ rest) q
    kept_found e es rest p q o more true true a b =
        let x : is_of p e.1 ≡ true = subst (λ z. is_of z e.1 ≡ true) (sym (same_request p q a)) b in cc
    kept_found e es rest p q o more false true a b = rw (a, b)
    kept_found e es rest p q o more a false h b = rw b more

    -- the table without a request finds each other one among what is left
    pub found_remove : (low n : ℕ) (es : List (ℕ × V)) (p q : RequestNo) (number : ℕ) → AreNumbered low es n → AreOnce request_of es → arrival_of request_of es p ≡ Some number → cond (is_same_request p q) None (arrival_of request_of es q) ≡ arrival_of request_of (remove_entry (is_at (nat_cmp number)) es) q
    found_remove low n [] p q number h o x = absurd (none-some number x)
    found_remove low n (e ∷ es) p q number h o x = at (found_remove (e.0 + 1) n es p q number h.1 o.1) (is_of p e.1) refl x
      where
        at : (arrival_of request_of es p ≡ Some number → cond (is_same_request p q) None (arrival_of request_of es q) ≡ arrival_of request_of (remove_entry (is_at (nat_cmp number)) es) q) → (b : Bool) → is_of p e.1 ≡ b → cond b (Some e.0) (arrival_of request_of es p) ≡ Some number → cond (is_same_request p q) None (arrival_of request_of (e ∷ es) q) ≡ arrival_of request_of (remove_entry (is_at (nat_cmp number)) (e ∷ es)) q
        at more true a y = rw (gone_by low n p number e es h true a y) (gone_found e es p q a o.0 (is_same_request p q) refl)
        at more false a y = rw (gone_by low n p number e es h false a y) (kept_found e es (remove_entry (is_at (nat_cmp number)) es) p q a (more y) (is_same_request p q) (is_of q e.1) refl refl)

    -- what is left are the values without the first of the request
    pub seconds_remove : (low n : ℕ) (es : List (ℕ × V)) (p : RequestNo) (number : ℕ) → AreNumbered low es n → arrival_of request_of es p ≡ Some number → seconds (remove_entry (is_at (nat_cmp number)) es) ≡ without_first (is_of p) (seconds es)
    seconds_remove low n [] p number h x = absurd (none-some number x)
    seconds_remove low n (e ∷ es) p number h x = at (seconds_remove (e.0 + 1) n es p number h.1) (is_of p e.1) refl x
      where
        at : (arrival_of request_of es p ≡ Some number → seconds (remove_entry (is_at (nat_cmp number)) es) ≡ without_first (is_of p) (seconds es)) → (b : Bool) → is_of p e.1 ≡ b → cond b (Some e.0) (arrival_of request_of es p) ≡ Some number → seconds (remove_entry (is_at (nat_cmp number)) (e ∷ es)) ≡ without_first (is_of p) (seconds (e ∷ es))
        at more true a y = rw (gone_by low n p number e es h true a y, a)
        at more false a y = rw (gone_by low n p number e es h false a y, a) (ap (λ vs. e.1 ∷ vs) (more y))

    -- a request that hasn't arrived takes nothing away
    pub seconds_stay : (es : List (ℕ × V)) (p : RequestNo) → arrival_of request_of es p ≡ None → seconds es ≡ without_first (is_of p) (seconds es)
    seconds_stay [] p h = refl
    seconds_stay (e ∷ es) p h = let f = none_first e es p h in rw f.0 (ap (λ vs. e.1 ∷ vs) (seconds_stay es p f.1))

    filter_none : (es : List (ℕ × V)) (p : RequestNo) → arrival_of request_of es p ≡ None → filter (λ v. not (is_of p v)) (seconds es) ≡ seconds es
    filter_none [] p h = refl
    filter_none (e ∷ es) p h = let f = none_first e es p h in rw f.0 (ap (λ vs. e.1 ∷ vs) (filter_none es p f.1))

    filter_by : (e : ℕ × V) (es : List (ℕ × V)) (p : RequestNo) → arrival_of request_of es (request_of e.1) ≡ None → without_first (is_of p) (seconds es) ≡ filter (λ v. not (is_of p v)) (seconds es) → (b : Bool) → is_of p e.1 ≡ b → without_first (is_of p) (seconds (e ∷ es)) ≡ filter (λ v. not (is_of p v)) (seconds (e ∷ es))
    filter_by e es p n more true h = rw h (sym (filter_none es p (same_none es (request_of e.1) p h n)))
    filter_by e es p n more false h = rw h (ap (λ vs. e.1 ∷ vs) more)

    -- the first of a request is the only one
    pub first_is_all : (es : List (ℕ × V)) (p : RequestNo) → AreOnce request_of es → without_first (is_of p) (seconds es) ≡ filter (λ v. not (is_of p v)) (seconds es)
    first_is_all [] p h = refl
    first_is_all (e ∷ es) p h = filter_by e es p h.0 (first_is_all es p h.1) (is_of p e.1) refl

    -- the look-ups of a table after a change at one request
    abbrev pub Changes : RequestNo → Option ℕ → List (RequestNo × ℕ) → List (RequestNo × ℕ) → Type 0
    Changes r w before after = (q : RequestNo) → lookup (is_at (request_cmp q)) after ≡ cond (is_at (request_cmp r) q) w (lookup (is_at (request_cmp q)) before)

    -- a value put last
    pub indexed_push : (order after : List (ℕ × V)) (table table_after : List (RequestNo × ℕ)) (n : ℕ) (v : V) (r : RequestNo) → IsIndexed request_of order table n → r ≡ request_of v → list_any (is_of (request_of v)) (seconds order) ≡ false → after ≡ insert_entry nat_cmp order n v → Changes r (Some n) table table_after → IsIndexed request_of after table_after (n + 1)
    indexed_push order after table table_after n v r h e a o u =
        let none : arrival_of request_of order (request_of v) ≡ None = not_arrived order (request_of v) a in
        let is : after ≡ order ++ (n, v) ∷ [] = o ∙ put_last 0 n v order h.numbered in
        rw is (record {
          numbered = numbered_push 0 n v order h.numbered;
          once = once_push order (n, v) h.once none;
          found = λ q. u q ∙ rw (e, eq-request_cmp (request_of v) q, h.found q) (found_push order (n, v) q none);
        })

    pub pushed : (order after : List (ℕ × V)) (n : ℕ) (v : V) → AreNumbered 0 order n → after ≡ insert_entry nat_cmp order n v → seconds after ≡ seconds order ++ v ∷ []
    pushed order after n v h o = ap (λ es. seconds es) (o ∙ put_last 0 n v order h) ∙ seconds_push order (n, v)

    back_by : (order : List (ℕ × V)) (n : ℕ) (r q : RequestNo) → arrival_of request_of order r ≡ None → (b : Bool) → is_same_request r q ≡ b → cond (is_same_request r q) None (cond (is_same_request r q) (Some n) (arrival_of request_of order q)) ≡ arrival_of request_of order q
    back_by order n r q h true a = rw a (sym (same_none order r q a h))
    back_by order n r q h false a = rw a

    -- a number put in the table and taken away again
    pub indexed_back : (order after : List (ℕ × V)) (table between table_after : List (RequestNo × ℕ)) (n : ℕ) (v : V) (r : RequestNo) → IsIndexed request_of order table n → r ≡ request_of v → list_any (is_of (request_of v)) (seconds order) ≡ false → after ≡ order → Changes r (Some n) table between → Changes r None between table_after → IsIndexed request_of after table_after n
    indexed_back order after table between table_after n v r h e a o u w =
        let none : arrival_of request_of order (request_of v) ≡ None = not_arrived order (request_of v) a in
        rw o (record {
          numbered = h.numbered;
          once = h.once;
          found = λ q. w q ∙ rw (u q, e, eq-request_cmp (request_of v) q, h.found q) (back_by order n (request_of v) q none (is_same_request (request_of v) q) refl);
        })

    -- a value that goes
    pub indexed_remove : (order after : List (ℕ × V)) (table table_after : List (RequestNo × ℕ)) (n number : ℕ) (r : RequestNo) → IsIndexed request_of order table n → Some number ≡ lookup (is_at (request_cmp r)) table → after ≡ remove_entry (is_at (nat_cmp number)) order → Changes r None table table_after → IsIndexed request_of after table_after n
    indexed_remove order after table table_after n number r h e o u =
        rw o (record {
          numbered = numbered_remove 0 n (is_at (nat_cmp number)) order h.numbered;
          once = once_remove (is_at (nat_cmp number)) order h.once;
          found = λ q. u q ∙ rw (eq-request_cmp r q, h.found q) (found_remove 0 n order r q number h.numbered h.once (sym (h.found r) ∙ sym e));
        })

    pub removed : (order after : List (ℕ × V)) (table : List (RequestNo × ℕ)) (n number : ℕ) (r : RequestNo) → IsIndexed request_of order table n → Some number ≡ lookup (is_at (request_cmp r)) table → after ≡ remove_entry (is_at (nat_cmp number)) order → seconds after ≡ without_first (is_of r) (seconds order)
    removed order after table n number r h e o = ap (λ es. seconds es) o ∙ seconds_remove 0 n order r number h.numbered (sym (h.found r) ∙ sym e)

    pub not_there : (order : List (ℕ × V)) (table : List (RequestNo × ℕ)) (n : ℕ) (r : RequestNo) → IsIndexed request_of order table n → None ≡ lookup (is_at (request_cmp r)) table → seconds order ≡ without_first (is_of r) (seconds order)
    not_there order table n r h e = seconds_stay order r (sym (h.found r) ∙ sym e)

    -- the last value goes
    pub indexed_front : (order after : List (ℕ × V)) (p : ℕ × V) (table table_after : List (RequestNo × ℕ)) (n : ℕ) (r : RequestNo) → IsIndexed request_of order table n → r ≡ request_of p.1 → order ≡ after ++ p ∷ [] → Changes r None table table_after → IsIndexed request_of after table_after n
    indexed_front order after p table table_after n r h e o u =
        let once : AreOnce request_of (after ++ p ∷ []) = subst (AreOnce request_of) o h.once in
        record {
          numbered = numbered_front 0 n p after (subst (λ es. AreNumbered 0 es n) o h.numbered);
          once = once_front after p once;
          found = λ q. u q ∙ rw (e, eq-request_cmp (request_of p.1) q, h.found q, o) (found_front after p q once);
        }
