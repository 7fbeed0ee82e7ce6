-- What lies around the messages that have left: the first that may leave, what is left without it, and a message that is passed.
use Rattle.std.proofs.Common.{◌≡◌, ◌+◌, ◌<◌, ◌≤◌, ℕ, suc, arith, Bool, true, false, cond, List, [], ◌∷◌, ◌++◌, length, get_or, set, take, drop, ap, sym, refl, subst, nat_lt, ◌∙◌, ◌-◌, append_assoc, Option, Some, None, min}
use Rattle.std.specs.Prelude.{find, All, Result, Ok, Err, OnOk, OnErr}
use Rattle.std.specs.List.{remove, remove_range}
use Rattle.std.specs.Option.{option_map_or}
use Rattle.std.proofs.lemmas.Bool.{ltb-false, le-ltb}
use Rattle.std.proofs.lemmas.List.{drop_all, drop_at, drop-append-le, drop-drop, drop_more, drop-set-lt, get_or_append_left, get_or-append_right, get_or_at, get_or-drop, get_or_read, get_or-take, length-append, length-drop, length-take-le, take-append-drop, take_at, take-append-le, take_more, take_more_set}
use Rattle.std.proofs.lemmas.List.Elements.{All-append, All-drop, All-head, All-nil, All-push, All-tail, All-take, All-weaker}
use Rattle.std.proofs.lemmas.Option.{slice_get_read}
use Rattle.rr_model.specs.NodeState.{Owed}
use Rattle.rr_model.specs.NodeStep.{may_leave}
use Rattle.rr_state.specs.Owing.{without_first, IsOwn}
use Rattle.rr_state.specs.Passed.{Found, IsPassed}

-- the first element behind the front leaves
remove_behind : {X : Type 0} (front back : List X) (k : ℕ) → length front ≡ k → remove (front ++ back) k ≡ front ++ drop 1 back
remove_behind front back k e =
    let all = front ++ back in
    let plus : suc k ≡ k + 1 = omega arith in
    let behind : drop (suc k) all ≡ drop 1 back = ap (λ (n : ℕ). drop n all) plus ∙ sym (drop-drop 1 k all) ∙ ap (drop 1) (drop_at front back k e) in
    ap (λ f. f ++ drop (suc k) all) (take_at front back k e) ∙ ap (λ r. front ++ r) behind

module _ {X : Type 0} (p : X → Bool) where
  -- none of the front passes: the search goes on behind it
  find_behind : (front rest : List X) → All (λ x. p x ≡ false) front → find p (front ++ rest) ≡ find p rest
  find_behind [] rest a = refl
  find_behind (x ∷ xs) rest a = ap (λ (b : Bool). cond b (Some x) (find p (xs ++ rest))) (All-head (λ y. p y ≡ false) x xs a) ∙ find_behind xs rest (All-tail (λ y. p y ≡ false) x xs a)

  without_behind : (front rest : List X) → All (λ x. p x ≡ false) front → without_first p (front ++ rest) ≡ front ++ without_first p rest
  without_behind [] rest a = refl
  without_behind (x ∷ xs) rest a =
      ap (λ (b : Bool). cond b (xs ++ rest) (x ∷ without_first p (xs ++ rest))) (All-head (λ y. p y ≡ false) x xs a) ∙ ap (λ (ys : List X). x ∷ ys) (without_behind xs rest (All-tail (λ y. p y ≡ false) x xs a))

  found_behind : (front rest : List X) (y : X) (k : ℕ) → length front ≡ k → All (λ x. p x ≡ false) front → p y ≡ true → Found p (front ++ y ∷ rest) k
  found_behind front rest y k e a t =
      let all = front ++ y ∷ rest in
      let long : length all ≡ length front + suc (length rest) = length-append front (y ∷ rest) in
      let inside : k < length all = omega (arith, long, e) in
      let there : y ≡ get_or all k y = sym (get_or_at front y rest y k e) in (
        inside,
        find_behind front (y ∷ rest) a ∙ ap (λ (b : Bool). cond b (Some y) (find p rest)) t ∙ sym (slice_get_read all (length all) k y refl inside there),
        without_behind front (y ∷ rest) a ∙ ap (λ (b : Bool). front ++ cond b rest (y ∷ without_first p rest)) t ∙ sym (remove_behind front (y ∷ rest) k e),
      )

  -- the element at n passes, and none of the first k
  found_one : (xs : List X) (k n : ℕ) (y : X) → k ≤ n → n < length xs → All (λ x. p x ≡ false) (take k xs) → p (get_or xs n y) ≡ true → Found p (remove_range xs k n) k
  found_one xs k n y l m a t =
      let x = get_or xs n y in
      let at : drop n xs ≡ x ∷ drop (n + 1) xs = drop_more xs n y m in
      let front : length (take k xs) ≡ k = length-take-le k xs (omega (arith, l, m)) in
      subst (λ (r : List X). Found p (take k xs ++ r) k) (sym at) (found_behind (take k xs) (drop (n + 1) xs) x k front a t)

  pub found : (xs : List X) (k n : ℕ) → k ≤ n → n < length xs → All (λ x. p x ≡ false) (take k xs) → ((d : X) → p (get_or xs n d) ≡ true) → Found p (remove_range xs k n) k
  found [] k n l m a t = absurd (omega (arith, m))
  found (x ∷ xs) k n l m a t = found_one (x ∷ xs) k n x l m a (t x)

  -- none is left behind the first k
  pub found_none : (xs : List X) (k n : ℕ) → length xs ≤ n → All (λ x. p x ≡ false) (take k xs) → find p (remove_range xs k n) ≡ None
  found_none xs k n l a = find_behind (take k xs) (drop n xs) a ∙ ap (find p) (drop_all n xs l)

-- a later fact holds it back too
pub held_back : (end least : ℕ) (o : Owed) → end ≤ least → may_leave least o ≡ false → may_leave end o ≡ false
held_back end least o l = by o.backing
  where
    by : (b : Option ℕ) → option_map_or (λ k. nat_lt k least) b true ≡ false → option_map_or (λ k. nat_lt k end) b true ≡ false
    by None e = e
    by (Some k) e = let h : least ≤ k = ltb-false k least e in le-ltb k end (omega (arith, l, h))

pub all_held_back : (end least : ℕ) (os : List Owed) → end ≤ least → All (λ o. may_leave least o ≡ false) os → All (λ o. may_leave end o ≡ false) os
all_held_back end least os l a = All-weaker (λ o. may_leave least o ≡ false) (λ o. may_leave end o ≡ false) (λ o. held_back end least o l) os a

held : (least k : ℕ) (o : Owed) → o.backing ≡ Some k → may_leave (min least k) o ≡ false
held least k o e = ap (λ (b : Option ℕ). option_map_or (λ j. nat_lt j (min least k)) b true) e ∙ le-ltb k (min least k) (omega arith)

-- a message that is held back comes behind the passed ones
pub passed_more : (before after : List Owed) (count next least number : ℕ) (o : Owed) → IsPassed count next least before → next < length before → length after ≡ length before → ((d : Owed) → take (count + 1) after ≡ take count before ++ get_or before next d ∷ []) → o ≡ get_or before next o → o.backing ≡ Some number → IsPassed (count + 1) (next + 1) (min least number) after
passed_more before after count next least number o p l e t g b =
    let order : count ≤ next = p.0 in
    let P = λ (m : Owed). may_leave (min least number) m ≡ false in
    let fewer : min least number ≤ least = omega arith in
    let first : All P (take count before) = all_held_back (min least number) least (take count before) fewer p.2 in
    let all : All P (take count before ++ o ∷ []) = All-push P (take count before) o first (held least number o b) in
    let last : take count before ++ o ∷ [] ≡ take (count + 1) after = ap (λ (x : Owed). take count before ++ x ∷ []) g ∙ sym (t o) in
    (omega (arith, order), omega (arith, l, e), subst (All P) last all)

module _ {X : Type 0} where
  -- nothing is searched yet
  pub whole : (xs : List X) (k n : ℕ) → k ≡ 0 → n ≡ 0 → remove_range xs k n ≡ xs
  whole xs k n a b = ap (λ (i : ℕ). take i xs ++ drop n xs) a ∙ ap (λ (i : ℕ). drop i xs) b

  joined : (before after : List X) (k n : ℕ) (x : X) → n < length before → x ≡ get_or before n x → take (k + 1) after ≡ take k before ++ x ∷ [] → drop (n + 1) after ≡ drop (n + 1) before → remove_range after (k + 1) (n + 1) ≡ remove_range before k n
  joined before after k n x l g t d =
      let at : drop n before ≡ x ∷ drop (n + 1) before = drop_more before n x l ∙ ap (λ (y : X). y ∷ drop (n + 1) before) (sym g) in
      ap (λ (f : List X). f ++ drop (n + 1) after) t ∙ ap (λ (r : List X). (take k before ++ x ∷ []) ++ r) d ∙ append_assoc (take k before) (x ∷ []) (drop (n + 1) before) ∙ ap (λ (r : List X). take k before ++ r) (sym at)

  -- the element at n is written behind the first k
  pub moved_last : (xs : List X) (k n : ℕ) (x : X) → k < n → n < length xs → x ≡ get_or xs n x → (d : X) → take (k + 1) (set xs k x) ≡ take k xs ++ get_or xs n d ∷ []
  moved_last xs k n x l m g d = take_more_set xs k x (omega (arith, l, m)) ∙ ap (λ (y : X). take k xs ++ y ∷ []) (get_or_read xs n x m g d)

  pub moved_same : (xs : List X) (k n : ℕ) (x : X) → k < n → n < length xs → x ≡ get_or xs n x → remove_range (set xs k x) (k + 1) (n + 1) ≡ remove_range xs k n
  moved_same xs k n x l m g = joined xs (set xs k x) k n x m g (take_more_set xs k x (omega (arith, l, m))) (drop-set-lt (n + 1) xs k x (omega (arith, l)))

  -- it is there already
  pub stays_last : (xs : List X) (k n : ℕ) → k ≡ n → n < length xs → (d : X) → take (k + 1) xs ≡ take k xs ++ get_or xs n d ∷ []
  stays_last xs k n e m d = take_more xs k d (omega (arith, e, m)) ∙ ap (λ (i : ℕ). take k xs ++ get_or xs i d ∷ []) e

  pub stays_same : (xs : List X) (k n : ℕ) → k ≡ n → n < length xs → remove_range xs (k + 1) (n + 1) ≡ remove_range xs k n
  stays_same xs k n e m =
      let both : (i j : ℕ) → i ≡ j → remove_range xs i j ≡ xs = λ i j h. ap (λ (w : ℕ). take w xs ++ drop j xs) h ∙ take-append-drop j xs in
      both (k + 1) (n + 1) (ap (λ (w : ℕ). w + 1) e) ∙ sym (both k n e)

  -- more come last
  pub more_last : (xs more : List X) (k n : ℕ) → k ≤ n → n ≤ length xs → remove_range (xs ++ more) k n ≡ remove_range xs k n ++ more
  more_last xs more k n l m =
      ap (λ (f : List X). f ++ drop n (xs ++ more)) (take-append-le k xs more (omega (arith, l, m)))
      ∙ ap (λ (r : List X). take k xs ++ r) (drop-append-le n xs more m)
      ∙ sym (append_assoc (take k xs) (drop n xs) more)

  -- the element at n is gone
  pub one_gone : (xs : List X) (k n : ℕ) → k ≤ n → n ≤ length xs → remove_range xs k (n + 1) ≡ remove (remove_range xs k n) k
  one_gone xs k n l m =
      let front : length (take k xs) ≡ k = length-take-le k xs (omega (arith, l, m)) in
      sym (remove_behind (take k xs) (drop n xs) k front ∙ ap (λ (r : List X). take k xs ++ r) (drop-drop 1 n xs))

  pub length_around : (xs : List X) (k n : ℕ) → k ≤ n → n ≤ length xs → length (remove_range xs k n) ≡ k + (length xs - n)
  length_around xs k n l m =
      let front : length (take k xs) ≡ k = length-take-le k xs (omega (arith, l, m)) in
      let back : length (drop n xs) ≡ length xs - n = length-drop n xs in
      let both = length-append (take k xs) (drop n xs) in omega (arith, both, front, back)

  -- what is read of the list without the gone ones
  pub read_before : (xs : List X) (k n i : ℕ) (d : X) → i < k → k ≤ n → n ≤ length xs → get_or (remove_range xs k n) i d ≡ get_or xs i d
  read_before xs k n i d a l m =
      let front : length (take k xs) ≡ k = length-take-le k xs (omega (arith, l, m)) in
      get_or_append_left (take k xs) (drop n xs) d i (omega (arith, front, a)) ∙ get_or-take k xs i d a

  pub read_behind : (xs : List X) (k n i : ℕ) (d : X) → k ≤ i → k ≤ n → n ≤ length xs → get_or (remove_range xs k n) i d ≡ get_or xs (n + (i - k)) d
  read_behind xs k n i d a l m =
      let front : length (take k xs) ≡ k = length-take-le k xs (omega (arith, l, m)) in
      get_or-append_right (take k xs) (drop n xs) k i d front a ∙ get_or-drop n xs (i - k) d

pub own_left : (p : ℕ) (os : List Owed) (k : ℕ) → All (IsOwn p) os → All (IsOwn p) (remove os k)
own_left p os k a = All-append (IsOwn p) (take k os) (drop (suc k) os) (All-take (IsOwn p) k os a) (All-drop (IsOwn p) (suc k) os a)

-- what an outbox keeps to: what it owes is its own, and what it passed can't leave
abbrev pub Keeps : ℕ → List Owed → ℕ → ℕ → ℕ → Type 0
Keeps node os count next least = All (IsOwn node) (remove_range os count next) × IsPassed count next least os

-- nothing is passed yet
pub none_passed : (os : List Owed) (count next least : ℕ) → count ≡ 0 → next ≡ 0 → IsPassed count next least os
none_passed os count next least a b =
    let P = λ (o : Owed). may_leave least o ≡ false in
    (omega (arith, a, b), omega (arith, b), subst (λ (k : ℕ). All P (take k os)) (sym a) (All-nil P))

pub fresh : (node : ℕ) (os : List Owed) (count next least : ℕ) → count ≡ 0 → next ≡ 0 → All (IsOwn node) os → Keeps node os count next least
fresh node os count next least a b own = (subst (All (IsOwn node)) (sym (whole os count next a b)) own, none_passed os count next least a b)

-- messages come last, or none does
pub owed_more : {A E : Type 0} (r : Result A E) (node : ℕ) (os more after : List Owed) (count next least : ℕ) → OnOk r (after ≡ os ++ more) → OnErr r (after ≡ os) → Keeps node os count next least → All (IsOwn node) more → Keeps node after count next least
owed_more (Ok x) node os more after count next least ok err keeps own =
    let p = keeps.1 in
    let order : count ≤ next = p.0 in
    let inside : next ≤ length os = p.1 in
    let long = length-append os more in
    let all : Keeps node (os ++ more) count next least = (
      subst (All (IsOwn node)) (sym (more_last os more count next order inside)) (All-append (IsOwn node) (remove_range os count next) more keeps.0 own),
      (order, omega (arith, inside, long), subst (All (λ o. may_leave least o ≡ false)) (sym (take-append-le count os more (omega (arith, order, inside)))) p.2),
    ) in
    subst (λ (os : List Owed). Keeps node os count next least) (sym ok) all
owed_more (Err e) node os more after count next least ok err keeps own = subst (λ (os : List Owed). Keeps node os count next least) (sym err) keeps

-- the first message behind the passed ones leaves
pub one_left : (node : ℕ) (os : List Owed) (count next least : ℕ) → Keeps node os count next least → count < length (remove_range os count next) → Keeps node os count (next + 1) least
one_left node os count next least keeps l =
    let p = keeps.1 in
    let order : count ≤ next = p.0 in
    let inside : next ≤ length os = p.1 in
    let long = length_around os count next order inside in (
      subst (All (IsOwn node)) (sym (one_gone os count next order inside)) (own_left node (remove_range os count next) count keeps.0),
      (omega (arith, order), omega (arith, l, order, inside, long), p.2),
    )

-- one message more
pub more_owed : (before more : List Owed) (k : ℕ) (o : Owed) → k < length more → o ≡ get_or more k o → (before ++ take k more) ++ o ∷ [] ≡ before ++ take (k + 1) more
more_owed before more k o l g =
    append_assoc before (take k more) (o ∷ []) ∙ ap (λ (x : List Owed). before ++ x) (ap (λ (y : Owed). take k more ++ y ∷ []) g ∙ sym (take_more more k o l))

pub own_front : (p : ℕ) (os : List Owed) (k : ℕ) → All (IsOwn p) os → All (IsOwn p) (take k os)
own_front p os k a = All-take (IsOwn p) k os a
