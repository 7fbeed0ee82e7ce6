-- A node's decided prefix, read off its promise, is that of its facts.
use Rattle.std.proofs.Common.{◌≡◌, ℕ, ◌+◌, ◌≤◌, ◌<◌, ◌⊎◌, inl, inr, zero, suc, Bool, true, false, ◌==◌, nat_lt, if◌then◌else◌, List, [], ◌∷◌, length, Option, None, Some, refl, ap, sym, ◌∙◌, subst, arith, eqb-true, ltb-true, le_refl, le_of_suc-le-suc}
use Rattle.std.proofs.lemmas.Bool.{false≢true, eqb-false, ltb-false, ne_eqb, and_parts, cases_order}
use Rattle.rr_types.specs.declared.command.Command.{Command}
use Rattle.rr_types.specs.declared.command.RequestNo.{RequestNo}
use Rattle.rr_types.specs.declared.command.Reply.{Reply}
use Rattle.rr_types.specs.declared.fact.Fact.{Fact}
use Rattle.rr_types.specs.declared.promise.Entry.{Entry}
use Rattle.rr_types.specs.declared.promise.Standing.{Standing}
use Rattle.rr_types.specs.declared.promise.Standing.TheVariants.{Decided, Open}
use Rattle.rr_types.specs.Registry.{is_same_request, has_request, Bindings, apply, firsts_beside, reply_after, reply_of}
use Rattle.rr_types.specs.Facts.{instance_of, after_fact, standing_of}
use Rattle.rr_types.specs.Promises as promises
use Rattle.rr_types.specs.Promises.{AscendsFrom, standing_in, set_entry, set_standing, take_on, take_on_all, promise_of}
use Rattle.rr_model.proofs.Prefixes.{decided_from, prefix_is as prefix_by_places}
use Rattle.rr_model.specs.World as world
use Rattle.rr_model.proofs.Promised.{standing_in-promise_of}

ascends_set : (low i : ℕ) (s : Standing) (es : List Entry) → low ≤ i → AscendsFrom low es → AscendsFrom low (set_entry i s es)
ascends_set low i s [] l a = (omega arith, tt)
ascends_set low i s (e ∷ es) l a = at (λ m. ascends_set (e.instance + 1) i s es m a.1) (nat_lt i e.instance) (i == e.instance) refl refl
  where
    at : (e.instance + 1 ≤ i → AscendsFrom (e.instance + 1) (set_entry i s es)) → (below same : Bool) → nat_lt i e.instance ≡ below → (i == e.instance) ≡ same → AscendsFrom low (if below then record { instance = i; standing = s } ∷ e ∷ es else (if same then record { instance = i; standing = s } ∷ es else e ∷ set_entry i s es))
    at ih true same x y = (omega arith, ((let z : i < e.instance = ltb-true _ _ x in omega arith), a.1))
    at ih false true x y = (omega arith, subst (λ z. AscendsFrom (z + 1) es) (sym (eqb-true _ _ y)) a.1)
    at ih false false x y = (a.0, ih (above (ltb-false _ _ x) (cases_order i e.instance)))
      where
        above : e.instance ≤ i → (i ≡ e.instance) ⊎ ((i < e.instance) ⊎ (e.instance < i)) → e.instance + 1 ≤ i
        above z (inl u) = absurd (eqb-false _ _ y u)
        above z (inr (inl u)) = absurd (omega arith)
        above z (inr (inr u)) = omega arith

ascends_standing : (i : ℕ) (s : Option Standing) (es : List Entry) → AscendsFrom 0 es → AscendsFrom 0 (set_standing i s es)
ascends_standing i None es a = a
ascends_standing i (Some s) es a = ascends_set 0 i s es (omega arith) a

pub ascends_all : (es : List Entry) (facts : List Fact) → AscendsFrom 0 es → AscendsFrom 0 (take_on_all es facts)
ascends_all es [] a = a
ascends_all es (f ∷ facts) a = ascends_all (take_on es f) facts (ascends_standing (instance_of f) (after_fact (standing_in es (instance_of f)) f) es a)

length_set : (i : ℕ) (s : Standing) (es : List Entry) → length (set_entry i s es) ≤ suc (length es)
length_set i s [] = omega arith
length_set i s (e ∷ es) = at (length_set i s es) (nat_lt i e.instance) (i == e.instance)
  where
    at : length (set_entry i s es) ≤ suc (length es) → (below same : Bool) → length (if below then record { instance = i; standing = s } ∷ e ∷ es else (if same then record { instance = i; standing = s } ∷ es else e ∷ set_entry i s es)) ≤ suc (suc (length es))
    at ih true same = omega arith
    at ih false true = omega arith
    at ih false false = omega arith

length_standing : (i : ℕ) (s : Option Standing) (es : List Entry) → length (set_standing i s es) ≤ suc (length es)
length_standing i None es = omega arith
length_standing i (Some s) es = length_set i s es

length_all : (es : List Entry) (facts : List Fact) → length (take_on_all es facts) ≤ length es + length facts
length_all es [] = omega arith
length_all es (f ∷ facts) =
    let a : length (take_on_all (take_on es f) facts) ≤ length (take_on es f) + length facts = length_all (take_on es f) facts in
    let b : length (take_on es f) ≤ suc (length es) = length_standing (instance_of f) (after_fact (standing_in es (instance_of f)) f) es in
    omega arith

pub none_below : (i low : ℕ) (es : List Entry) → AscendsFrom low es → i < low → standing_in es i ≡ None
none_below i low [] a l = refl
none_below i low (e ∷ es) a l =
    let m : low < e.instance + 1 = a.0 in
    ap (λ t. if t then Some e.standing else standing_in es i) (ne_eqb e.instance i (λ x. omega arith)) ∙ none_below i (e.instance + 1) es a.1 (omega arith)

-- what the entries say of higher instances, the later ones say
said_later : (i j : ℕ) (e : Entry) (es : List Entry) → e.instance ≡ i → i + 1 ≤ j → standing_in es j ≡ standing_in (e ∷ es) j
said_later i j e es x l = sym (ap (λ t. if t then Some e.standing else standing_in es j) (ne_eqb e.instance j (λ y. omega arith)))

decided_one : (m i : ℕ) (facts : List Fact) (e : Entry) (es : List Entry) (t : Standing) → (e.instance == i) ≡ true → e.standing ≡ t → standing_of i facts ≡ Some t → promises.decided_from (i + 1) es ≡ decided_from m (i + 1) facts → promises.decided_from i (e ∷ es) ≡ decided_from (suc m) i facts
decided_one m i facts e es (Decided v) x y z ih = rw (x, y, z) (ap (λ w. v ∷ w) ih)
decided_one m i facts e es (Open o) x y z ih = rw (x, y, z)

-- the contiguous decided commands of ascending entries are those of the facts
same_from : (most i : ℕ) (facts : List Fact) (es : List Entry) → AscendsFrom i es → length es ≤ most → ((j : ℕ) → i ≤ j → standing_in es j ≡ standing_of j facts) → promises.decided_from i es ≡ decided_from most i facts
same_from zero i facts [] a l s = refl
same_from (suc m) i facts [] a l s = rw (sym (s i (le_refl i)))
same_from zero i facts (e ∷ es) a l s = absurd (omega arith)
same_from (suc m) i facts (e ∷ es) a l s = at (λ b s2. same_from m (i + 1) facts es b (le_of_suc-le-suc l) s2) (e.instance == i) refl
  where
    at : (AscendsFrom (i + 1) es → ((j : ℕ) → i + 1 ≤ j → standing_in es j ≡ standing_of j facts) → promises.decided_from (i + 1) es ≡ decided_from m (i + 1) facts) → (t : Bool) → (e.instance == i) ≡ t → promises.decided_from i (e ∷ es) ≡ decided_from (suc m) i facts
    at ih true x =
        let same : e.instance ≡ i = eqb-true _ _ x in
        decided_one m i facts e es e.standing x refl (sym (s i (le_refl i)) ∙ ap (λ t. if t then Some e.standing else standing_in es i) x)
        (ih (subst (λ z. AscendsFrom (z + 1) es) same a.1) (λ j k. said_later i j e es same k ∙ s j (omega arith)))
    at ih false x =
        let low : i < e.instance + 1 = a.0 in
        let none : standing_of i facts ≡ None = sym (s i (le_refl i)) ∙ ap (λ t. if t then Some e.standing else standing_in es i) x ∙ none_below i (e.instance + 1) es a.1 low in
        rw (x, none)

-- a node's decided prefix is that of the facts of which it knows the promise
pub same_prefix : (facts : List Fact) → promises.decided_from 0 (promise_of facts) ≡ world.decided_prefix facts
same_prefix facts = same_from (length facts) 0 facts (promise_of facts) (ascends_all [] facts tt) (let l : length (take_on_all [] facts) ≤ length {A = Entry} [] + length facts = length_all [] facts in omega arith) (λ j l. standing_in-promise_of facts j) ∙ sym (prefix_by_places facts)

same_number : (p q : RequestNo) → is_same_request p q ≡ true → p ≡ q
same_number p q e =
    let parts : ((p.client == q.client) ≡ true) × ((p.seq == q.seq) ≡ true) = and_parts (p.client == q.client) (p.seq == q.seq) e in
    let make : ℕ → ℕ → RequestNo = (λ c s. record { client = c; seq = s }) in
    ap (λ c. make c p.seq) (eqb-true p.client q.client parts.0) ∙ ap (λ s. make q.client s) (eqb-true p.seq q.seq parts.1)

HasReply : Option Reply → Type 0
HasReply o = (r : Reply) × (o ≡ Some r)

replied : (m : Bindings) (seen xs : List Command) (q : RequestNo) → has_request seen q ≡ false → has_request xs q ≡ true → HasReply (reply_after m (firsts_beside seen xs) q)
unfolding HasReply
replied m seen [] q n h = absurd (false≢true h)
replied m seen (x ∷ xs) q n h = at (λ g. replied m seen xs q n g) (λ g k. replied (apply m x).0 (x ∷ seen) xs q g k) (has_request seen x.request) (is_same_request x.request q) refl refl h
  where
    at : (has_request xs q ≡ true → HasReply (reply_after m (firsts_beside seen xs) q)) → (has_request (x ∷ seen) q ≡ false → has_request xs q ≡ true → HasReply (reply_after (apply m x).0 (firsts_beside (x ∷ seen) xs) q)) → (a b : Bool) → has_request seen x.request ≡ a → is_same_request x.request q ≡ b → (if b then true else has_request xs q) ≡ true → HasReply (reply_after m (if a then firsts_beside seen xs else x ∷ firsts_beside (x ∷ seen) xs) q)
    at i j true true c d k = absurd (false≢true (sym n ∙ ap (has_request seen) (sym (same_number x.request q d)) ∙ c))
    at i j true false c d k = i k
    at i j false true c d k = ((apply m x).1, ap (λ t. if t then Some (apply m x).1 else reply_after (apply m x).0 (firsts_beside (x ∷ seen) xs) q) d)
    at i j false false c d k = subst HasReply (sym (ap (λ t. if t then Some (apply m x).1 else reply_after (apply m x).0 (firsts_beside (x ∷ seen) xs) q) d)) (j (ap (λ t. if t then true else has_request seen q) d ∙ n) k)

-- a list that holds a request has a reply to it
pub held_has_reply : (xs : List Command) (q : RequestNo) → has_request xs q ≡ true → (r : Reply) × (reply_of xs q ≡ Some r)
unfolding HasReply
held_has_reply xs q h = replied [] [] xs q refl h
