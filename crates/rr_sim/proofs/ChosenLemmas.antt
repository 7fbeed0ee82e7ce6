-- The tests of a wire tell what is chosen on it.
use Rattle.std.proofs.Common.{◌≡◌, ℕ, zero, suc, ◌+◌, ◌<◌, ◌≤◌, Bool, true, false, ◌&&◌, ◌||◌, nat_eq, List, [], ◌∷◌, length, refl, sym, ◌∙◌, ap, subst, arith}
use Rattle.std.specs.Prelude.{Option, None, Some, is_some, slice_get, slice_index_or, nat_le, if◌then◌else◌, IfSome, IsSome, ◌⊎◌, ◌++◌, take}
use Rattle.std.proofs.Common.{inl, inr, get_or, cond}
use Rattle.std.specs.declared.cmp.Ordering.{Ordering}
use Rattle.std.specs.declared.cmp.Ordering.TheVariants.{Less, Equal, Greater}
use Rattle.std.proofs.lemmas.Bool.{cases_lt, and_right}
use Rattle.std.proofs.lemmas.Bool.Decides.{nat_tests}
use Rattle.std.proofs.lemmas.Cmp.{tied_itself, nat_cmp_total}
use Rattle.std.proofs.lemmas.Map.Views.{tells_apart}
use Rattle.std.proofs.lemmas.Map.Lookups.{exact_unsigned}
use Rattle.std.proofs.lemmas.Option.{get_or_from_slice_get}
use Rattle.std.specs.List.{Contains, list_any}
use Rattle.std.proofs.lemmas.Bool.{true≢false, eqb-true, eq-eqb, leb-true, le-leb}
use Rattle.std.proofs.lemmas.List.Folds.{list_any_at, list_any_more}
use Rattle.rr_types.specs.declared.command.Command.{Command}
use Rattle.rr_types.specs.declared.message.Message.{Message}
use Rattle.rr_types.specs.declared.message.Body.{Body}
use Rattle.rr_types.specs.declared.message.Body.TheVariants.{Estimate, Proposal, Ack, Decision, Request, Nack, Beat, Suspects, Ask}
use Rattle.rr_types.specs.Rounds.{majority_of}
use Rattle.rr_model.specs.Lawful.{Says, HasMajority, count_below}
use Rattle.rr_model.specs.Sound.{IsChosen, IsChosenList, IsDecidedList}
use Rattle.std.specs.BTreeSet.{BTreeSet}
use Rattle.std.specs.Ordering.{nat_cmp, ordering_then, is_eq}
use Rattle.rr_sim.specs.Chosen.{is_ack_of, has_acked, has_ack, is_majority, chosen_by}

-- an element that passes a test
pub record Passing {X : Type 0} (p : X → Bool) (xs : List X) : Type 0 where
  pub element : X
  pub at : Contains xs element
  pub passes : p element ≡ true

-- it stands one place later behind another element
behind : {X : Type 0} (p : X → Bool) (x : X) (xs : List X) → Passing p xs → Passing p (x ∷ xs)
behind p x xs t = record { element = t.element; at = (suc t.at.0, omega (arith, t.at.1), t.at.2); passes = t.passes }

passing_by : {X : Type 0} (p : X → Bool) (x : X) (xs : List X) → (list_any p xs ≡ true → Passing p xs) → (b : Bool) → p x ≡ b → (b || list_any p xs) ≡ true → Passing p (x ∷ xs)
passing_by p x xs rest true h e = record { element = x; at = (0, omega arith, refl); passes = h }
passing_by p x xs rest false h e = behind p x xs (rest e)

-- a list in which some element passes a test has one that does
pub passing : {X : Type 0} (p : X → Bool) (xs : List X) → list_any p xs ≡ true → Passing p xs
passing p [] e = absurd (true≢false (sym e))
passing p (x ∷ xs) e = passing_by p x xs (passing p xs) (p x) refl e

-- both sides of a conjunction that holds
both : (a b : Bool) → (a && b) ≡ true → (a ≡ true) × (b ≡ true)
both true b e = (refl, e)
both false b e = absurd (true≢false (sym e))

-- a body that acknowledges a round is its acknowledgement
ack_is : (i r : ℕ) (b : Body) → is_ack_of i r b ≡ true → b ≡ Ack i r
ack_is i r (Estimate j e) h = absurd (true≢false (sym h))
ack_is i r (Proposal j s v) h = absurd (true≢false (sym h))
ack_is i r (Ack j s) h = let t = both (nat_eq j i) (nat_eq s r) h in ap (λ k. Ack k s) (eqb-true j i t.0) ∙ ap (λ k. Ack i k) (eqb-true s r t.1)
ack_is i r (Decision j v) h = absurd (true≢false (sym h))
ack_is i r (Request c) h = absurd (true≢false (sym h))
ack_is i r (Nack j s) h = absurd (true≢false (sym h))
ack_is i r Beat h = absurd (true≢false (sym h))
ack_is i r (Suspects set) h = absurd (true≢false (sym h))
ack_is i r (Ask j) h = absurd (true≢false (sym h))

-- a test that a number passes with itself
same : (n : ℕ) → nat_eq n n ≡ true
same n = eq-eqb n n refl

-- a message by its parts
by_parts : (m : Message) (q : ℕ) (b : Body) → m.from ≡ q → m.body ≡ b → m ≡ record { from = q; to = m.to; body = b }
by_parts m q b f e = ap (λ p. record { from = p; to = m.to; body = m.body }) f ∙ ap (λ c. record { from = q; to = m.to; body = c }) e

-- the test of acknowledgements finds one
pub acked_says : (wire : List Message) (i r q : ℕ) → has_acked wire i r q ≡ true → Says wire q (Ack i r)
acked_says wire i r q h =
    let t = passing (λ (m : Message). nat_eq m.from q && is_ack_of i r m.body) wire h in
    let parts = both (nat_eq t.element.from q) (is_ack_of i r t.element.body) t.passes in
    (t.element.to, subst (λ (m : Message). Contains wire m) (by_parts t.element q (Ack i r) (eqb-true t.element.from q parts.0) (ack_is i r t.element.body parts.1)) t.at)

-- and finds each
pub says_acked : (wire : List Message) (i r q : ℕ) → Says wire q (Ack i r) → has_acked wire i r q ≡ true
says_acked wire i r q s =
    let m : Message = record { from = q; to = s.0; body = Ack i r } in
    list_any_at (λ (m : Message). nat_eq m.from q && is_ack_of i r m.body) wire s.1.0 m s.1.1
    (subst (λ (k : Message). (nat_eq k.from q && is_ack_of i r k.body) ≡ true) (sym s.1.2) (all_same (nat_eq q q) (nat_eq i i) (nat_eq r r) (same q) (same i) (same r)))
  where
    all_same : (a b c : Bool) → a ≡ true → b ≡ true → c ≡ true → (a && (b && c)) ≡ true
    all_same a b c x y z = rw (x, y, z) refl

-- a larger set counts at least as many
count_le : (f g : ℕ → Bool) (n : ℕ) → ((q : ℕ) → q < n → f q ≡ true → g q ≡ true) → count_below f n ≤ count_below g n
count_le f g zero h = omega arith
count_le f g (suc n) h = by (f n) (g n) (h n (omega arith)) (count_le f g n (λ q l e. h q (omega arith) e))
  where
    by : (a b : Bool) → (a ≡ true → b ≡ true) → count_below f n ≤ count_below g n → (if a then suc (count_below f n) else count_below f n) ≤ (if b then suc (count_below g n) else count_below g n)
    by true true k l = omega arith
    by true false k l = absurd (true≢false (sym (k refl)))
    by false true k l = omega arith
    by false false k l = l

-- a round that the test finds acknowledged is so by a majority
pub acked_majority : (n : ℕ) (wire : List Message) (i r : ℕ) → is_majority n (has_acked wire i r) ≡ true → HasMajority n (λ q. Says wire q (Ack i r))
unfolding is_majority
acked_majority n wire i r h = record {
  members = has_acked wire i r;
  enough = leb-true (majority_of n) (count_below (has_acked wire i r) n) h;
  each = λ q l e. acked_says wire i r q e;
}

-- and the other way round
pub majority_acked : (n : ℕ) (wire : List Message) (i r : ℕ) → HasMajority n (λ q. Says wire q (Ack i r)) → is_majority n (has_acked wire i r) ≡ true
unfolding is_majority
majority_acked n wire i r m =
    let more = count_le m.members (has_acked wire i r) n (λ q l e. says_acked wire i r q (m.each q l e)) in
    le-leb (majority_of n) (count_below (has_acked wire i r) n) (omega (arith, more, m.enough))

-- an element of a list is what get finds at its place
pub get_at : {X : Type 0} (xs : List X) (k : ℕ) (x : X) → k < length xs → slice_index_or xs k x ≡ x → slice_get xs k ≡ Some x
get_at [] k x l e = absurd (omega arith)
get_at (y ∷ ys) zero x l e = ap Some e
get_at (y ∷ ys) (suc k) x l e = get_at ys k x (omega arith) e

-- two sets of nodes with the same members have as many
count_same : (f g : ℕ → Bool) (n : ℕ) → ((q : ℕ) → f q ≡ g q) → count_below f n ≡ count_below g n
count_same f g zero h = refl
count_same f g (suc n) h = rw (h n, count_same f g n h) refl

majority_same : (n : ℕ) (f g : ℕ → Bool) → ((q : ℕ) → f q ≡ g q) → is_majority n f ≡ is_majority n g
unfolding is_majority
majority_same n f g h = rw (count_same f g n h) refl

-- sets with the same acknowledgements tell the same of a body
pub chosen_by_same : (n : ℕ) (f g : ℕ → ℕ → ℕ → Bool) (b : Body) → ((i r q : ℕ) → f i r q ≡ g i r q) → chosen_by n f b ≡ chosen_by n g b
chosen_by_same n f g (Estimate j e) h = refl
chosen_by_same n f g (Proposal j r v) h = rw (majority_same n (f j r) (g j r) (h j r)) refl
chosen_by_same n f g (Ack j r) h = refl
chosen_by_same n f g (Decision j v) h = refl
chosen_by_same n f g (Request c) h = refl
chosen_by_same n f g (Nack j r) h = refl
chosen_by_same n f g Beat h = refl
chosen_by_same n f g (Suspects set) h = refl
chosen_by_same n f g (Ask j) h = refl

-- what a proposal chooses
chosen_by_proposal : (n : ℕ) (wire : List Message) (j r q : ℕ) (v : Command) → Says wire q (Proposal j r v) → (b : Bool) → is_majority n (has_acked wire j r) ≡ b → IfSome {T = ℕ × Command} (if b then Some (j, v) else None) (λ p. IsChosen n wire p.0 p.1)
chosen_by_proposal n wire j r q v s true k = record { round = r; proposer = q; proposed = s; acknowledged = acked_majority n wire j r k }
chosen_by_proposal n wire j r q v s false k = tt

-- a message of the wire that the test takes chooses its command
pub chosen_by_says : (n : ℕ) (wire : List Message) (q : ℕ) (b : Body) → Says wire q b → IfSome (chosen_by n (has_acked wire) b) (λ p. IsChosen n wire p.0 p.1)
chosen_by_says n wire q (Estimate j e) s = tt
chosen_by_says n wire q (Proposal j r v) s = chosen_by_proposal n wire j r q v s (is_majority n (has_acked wire j r)) refl
chosen_by_says n wire q (Ack j r) s = tt
chosen_by_says n wire q (Decision j v) s = tt
chosen_by_says n wire q (Request c) s = tt
chosen_by_says n wire q (Nack j r) s = tt
chosen_by_says n wire q Beat s = tt
chosen_by_says n wire q (Suspects set) s = tt
chosen_by_says n wire q (Ask j) s = tt

-- what is found for each instance behind the first messages of the wire: chosen commands alone, and one where these messages choose one
pub record Finds (n : ℕ) (wire : List Message) (at : ℕ) (found : ℕ → Option Command) : Type 0 where
  pub chosen : (i : ℕ) → IfSome (found i) (λ v. IsChosen n wire i v)
  pub all : (k : ℕ) (m : Message) → k < at → slice_get wire k ≡ Some m → (i : ℕ) (v : Command) → chosen_by n (has_acked wire) m.body ≡ Some (i, v) → IsSome (found i)

-- the message at a place is the one that get finds there
same_message : (wire : List Message) (at k : ℕ) (x m : Message) → x ≡ get_or wire at x → k ≡ at → slice_get wire k ≡ Some m → x ≡ m
same_message wire at k x m item same e = item ∙ ap (λ j. get_or wire j x) (sym same) ∙ get_or_from_slice_get wire k m x e

-- one more message, which chooses nothing
pub finds_past : (n : ℕ) (wire : List Message) (at : ℕ) (found : ℕ → Option Command) (x : Message) → x ≡ get_or wire at x → chosen_by n (has_acked wire) x.body ≡ None → Finds n wire at found → Finds n wire (at + 1) found
finds_past n wire at found x item none h = record { chosen = h.chosen; all = λ k m l e i v is. by k m e i v is (cases_lt k at) l }
  where
    by : (k : ℕ) (m : Message) → slice_get wire k ≡ Some m → (i : ℕ) (v : Command) → chosen_by n (has_acked wire) m.body ≡ Some (i, v) → (k < at) ⊎ (at ≤ k) → k < at + 1 → IsSome (found i)
    by k m e i v is (inl lt) l = h.all k m lt e i v is
    by k m e i v is (inr ge) l =
        let here = same_message wire at k x m item (omega arith) e in
        let nothing : ◌≡◌ {A = Option (ℕ × Command)} None (Some (i, v)) = sym (ap (λ (y : Message). chosen_by n (has_acked wire) y.body) (sym here) ∙ none) ∙ is in
        absurd cc

-- the instance in what a message chooses
abbrev instance_in : Option (ℕ × Command) → ℕ
instance_in None = 0
instance_in (Some p) = p.0

-- one more message, which chooses a command, and this is found for its instance
pub finds_more : (n : ℕ) (wire : List Message) (at : ℕ) (found more : ℕ → Option Command) (x : Message) (j : ℕ) (w : Command) → at < length wire → x ≡ get_or wire at x → chosen_by n (has_acked wire) x.body ≡ Some (j, w)
    → ((i : ℕ) → more i ≡ cond (is_eq (nat_cmp j i)) (Some w) (found i)) → Finds n wire at found → Finds n wire (at + 1) more
finds_more n wire at found more x j w inside item takes puts h = record { chosen = λ i. chosen_at i (is_eq (nat_cmp j i)) refl; all = λ k m l e i v is. all_at i (is_eq (nat_cmp j i)) refl k m e v is l (cases_lt k at) }
  where
    here : IsChosen n wire j w
    here = let says = chosen_by_says n wire x.from x.body (x.to, (at, inside, sym item)) in subst (λ (o : Option (ℕ × Command)). IfSome o (λ p. IsChosen n wire p.0 p.1)) takes says

    chosen_at : (i : ℕ) (b : Bool) → is_eq (nat_cmp j i) ≡ b → IfSome (more i) (λ v. IsChosen n wire i v)
    chosen_at i true t = rw (puts i, t) (subst (λ (y : ℕ). IsChosen n wire y w) (tells_apart exact_unsigned j i t) here)
    chosen_at i false t = rw (puts i, t) (h.chosen i)

    all_at : (i : ℕ) (b : Bool) → is_eq (nat_cmp j i) ≡ b → (k : ℕ) (m : Message) → slice_get wire k ≡ Some m → (v : Command) → chosen_by n (has_acked wire) m.body ≡ Some (i, v) → k < at + 1 → (k < at) ⊎ (at ≤ k) → IsSome (more i)
    all_at i true t k m e v is l side = rw (puts i, t) refl
    all_at i false t k m e v is l (inl lt) = rw (puts i, t) (h.all k m lt e i v is)
    all_at i false t k m e v is l (inr ge) =
        let same = same_message wire at k x m item (omega arith) e in
        let two : ◌≡◌ {A = Option (ℕ × Command)} (Some (j, w)) (Some (i, v)) = sym takes ∙ ap (λ (y : Message). chosen_by n (has_acked wire) y.body) same ∙ is in
        let one : j ≡ i = ap instance_in two in
        absurd (true≢false (sym (ap is_eq (tied_itself nat_cmp_total i)) ∙ subst (λ (y : ℕ). is_eq (nat_cmp y i) ≡ false) one t))

-- behind the whole wire each chosen command's instance is found
pub finds_all : (n : ℕ) (wire : List Message) (at : ℕ) (found : ℕ → Option Command) → length wire ≤ at → Finds n wire at found → (i : ℕ) (v : Command) → IsChosen n wire i v → IsSome (found i)
finds_all n wire at found whole h i v c =
    let m : Message = record { from = c.proposer; to = c.proposed.0; body = Proposal i c.round v } in
    let inside = c.proposed.1.1 in
    h.all c.proposed.1.0 m (omega (arith, whole, inside)) (get_at wire c.proposed.1.0 m c.proposed.1.1 c.proposed.1.2) i v (rw (majority_acked n wire i c.round c.acknowledged) refl)

-- one number compares equal to another where the test of numbers says so
eq_by_numbers : (x y : ℕ) → is_eq (nat_cmp x y) ≡ nat_eq x y
eq_by_numbers x y = grind (arith, nat_tests)

-- a comparison by two parts finds both equal
eq_by_parts : (a b : Ordering) → is_eq (ordering_then a b) ≡ (is_eq a && is_eq b)
eq_by_parts Less b = refl
eq_by_parts Equal b = refl
eq_by_parts Greater b = refl

-- the comparison of a set of acknowledgements finds the one that the test of a message finds
eq_by_ack : (j s p i r q : ℕ) → is_eq (ordering_then (ordering_then (nat_cmp j i) (nat_cmp s r)) (nat_cmp p q)) ≡ (nat_eq p q && (nat_eq j i && nat_eq s r))
eq_by_ack j s p i r q =
    eq_by_parts (ordering_then (nat_cmp j i) (nat_cmp s r)) (nat_cmp p q)
    ∙ rw (eq_by_parts (nat_cmp j i) (nat_cmp s r), eq_by_numbers j i, eq_by_numbers s r, eq_by_numbers p q) (turned (nat_eq j i && nat_eq s r) (nat_eq p q))
  where
    turned : (a b : Bool) → (a && b) ≡ (b && a)
    turned true true = refl
    turned true false = refl
    turned false true = refl
    turned false false = refl

-- the acknowledgements of the first messages of the wire
abbrev pub Notes : List Message → ℕ → BTreeSet (ℕ × ℕ × ℕ) → Type 0
Notes wire at acks = (i r q : ℕ) → has_ack acks i r q ≡ has_acked (take at wire) i r q

added : (b c : Bool) → cond b true c ≡ (c || b)
added true true = refl
added true false = refl
added false true = refl
added false false = refl

-- one more message, an acknowledgement
pub notes_more : (wire : List Message) (at : ℕ) (old new : BTreeSet (ℕ × ℕ × ℕ)) (x : Message) (j s p : ℕ) → at < length wire → x ≡ get_or wire at x → x.from ≡ p → x.body ≡ Ack j s
    → ((i r q : ℕ) → has_ack new i r q ≡ cond (is_eq (ordering_then (ordering_then (nat_cmp j i) (nat_cmp s r)) (nat_cmp p q))) true (has_ack old i r q)) → Notes wire at old → Notes wire (at + 1) new
notes_more wire at old new x j s p inside item by says puts h i r q =
    let test = λ (m : Message). nat_eq m.from q && is_ack_of i r m.body in
    let of_x : test x ≡ (nat_eq p q && (nat_eq j i && nat_eq s r)) = ap (λ k. nat_eq k q && is_ack_of i r x.body) by ∙ ap (λ (b : Body). nat_eq p q && is_ack_of i r b) says in
    puts i r q ∙ rw (eq_by_ack j s p i r q, h i r q) (added (nat_eq p q && (nat_eq j i && nat_eq s r)) (has_acked (take at wire) i r q))
    ∙ ap (λ b. has_acked (take at wire) i r q || b) (sym of_x ∙ ap test item) ∙ sym (list_any_more test wire at x inside)

-- a body that is no acknowledgement acknowledges nothing
pub no_ack : (i r : ℕ) (b : Body) → ((j s : ℕ) → b ≡ Ack j s → ⊥) → is_ack_of i r b ≡ false
no_ack i r (Estimate j e) h = refl
no_ack i r (Proposal j s v) h = refl
no_ack i r (Ack j s) h = absurd (h j s refl)
no_ack i r (Decision j v) h = refl
no_ack i r (Request c) h = refl
no_ack i r (Nack j s) h = refl
no_ack i r Beat h = refl
no_ack i r (Suspects set) h = refl
no_ack i r (Ask j) h = refl

-- one more message, which is no acknowledgement
pub notes_past : (wire : List Message) (at : ℕ) (acks : BTreeSet (ℕ × ℕ × ℕ)) (x : Message) → at < length wire → x ≡ get_or wire at x → ((j s : ℕ) → x.body ≡ Ack j s → ⊥) → Notes wire at acks → Notes wire (at + 1) acks
notes_past wire at acks x inside item none h i r q =
    let test = λ (m : Message). nat_eq m.from q && is_ack_of i r m.body in
    h i r q ∙ sym (list_any_more test wire at x inside ∙ ap (λ b. has_acked (take at wire) i r q || b) (ap test (sym item) ∙ and_right (nat_eq x.from q) (is_ack_of i r x.body) (no_ack i r x.body none)) ∙ nothing_added (has_acked (take at wire) i r q))
  where
    nothing_added : (b : Bool) → (b || false) ≡ b
    nothing_added true = refl
    nothing_added false = refl

-- how many elements pass a test
abbrev pub how_many : {X : Type 0} → (X → Bool) → List X → ℕ
how_many p [] = 0
how_many p (x ∷ xs) = cond (p x) 1 0 + how_many p xs

-- whether a body proposes something for instance i or a later one
abbrev pub proposes_from : ℕ → Body → Bool
proposes_from i (Estimate j e) = false
proposes_from i (Proposal j r v) = nat_le i j
proposes_from i (Ack j r) = false
proposes_from i (Decision j v) = false
proposes_from i (Request c) = false
proposes_from i (Nack j r) = false
proposes_from i Beat = false
proposes_from i (Suspects set) = false
proposes_from i (Ask j) = false

-- how many proposals for instance i and later ones are on the wire
abbrev pub proposals_from : ℕ → List Message → ℕ
proposals_from i wire = how_many (λ m. proposes_from i m.body) wire

-- a test that takes at most what another takes counts at most as much
weaker : (a b : Bool) → (b ≡ true → a ≡ true) → cond b 1 0 ≤ cond a 1 0
weaker true true k = omega arith
weaker true false k = omega arith
weaker false true k = absurd (true≢false (sym (k refl)))
weaker false false k = omega arith

counts_le : {X : Type 0} (p q : X → Bool) (xs : List X) → ((y : X) → q y ≡ true → p y ≡ true) → how_many q xs ≤ how_many p xs
counts_le p q [] h = omega arith
counts_le p q (y ∷ ys) h = let rest = counts_le p q ys h in let first = weaker (p y) (q y) (h y) in omega (arith, rest, first)

-- and less where it doesn't take an element that the other takes
counts_lt : {X : Type 0} (p q : X → Bool) (xs : List X) (x : X) → ((y : X) → q y ≡ true → p y ≡ true) → (k : ℕ) → k < length xs → slice_index_or xs k x ≡ x → p x ≡ true → q x ≡ false → how_many q xs < how_many p xs
counts_lt p q [] x h k l e takes leaves = absurd (omega arith)
counts_lt p q (y ∷ ys) x h zero l e takes leaves =
    let rest = counts_le p q ys h in
    let one : ◌≡◌ {A = ℕ} (cond (p y) 1 0) 1 = ap (λ (b : Bool). let z : ℕ = cond b 1 0 in z) (ap p e ∙ takes) in
    let nought : ◌≡◌ {A = ℕ} (cond (q y) 1 0) 0 = ap (λ (b : Bool). let z : ℕ = cond b 1 0 in z) (ap q e ∙ leaves) in
    omega (arith, rest, one, nought)
counts_lt p q (y ∷ ys) x h (suc k) l e takes leaves =
    let rest = counts_lt p q ys x h k (omega arith) e takes leaves in let first = weaker (p y) (q y) (h y) in omega (arith, rest, first)

-- a proposal for a later instance is one from this instance on
proposes_less : (i : ℕ) (b : Body) → proposes_from (i + 1) b ≡ true → proposes_from i b ≡ true
proposes_less i (Estimate j e) h = h
proposes_less i (Proposal j r v) h = le-leb i j (let l = leb-true (i + 1) j h in omega arith)
proposes_less i (Ack j r) h = h
proposes_less i (Decision j v) h = h
proposes_less i (Request c) h = h
proposes_less i (Nack j r) h = h
proposes_less i Beat h = h
proposes_less i (Suspects set) h = h
proposes_less i (Ask j) h = h

not_above : (i : ℕ) (b : Bool) → nat_le (i + 1) i ≡ b → b ≡ false
not_above i true e = absurd (let l = leb-true (i + 1) i e in omega arith)
not_above i false e = refl

-- a chosen command was proposed, so fewer proposals are left for the instances behind its own
pub fewer_left : (n : ℕ) (wire : List Message) (i : ℕ) (v : Command) → IsChosen n wire i v → proposals_from (i + 1) wire < proposals_from i wire
fewer_left n wire i v c =
    let m : Message = record { from = c.proposer; to = c.proposed.0; body = Proposal i c.round v } in
    counts_lt (λ (y : Message). proposes_from i y.body) (λ (y : Message). proposes_from (i + 1) y.body) wire m (λ y h. proposes_less i y.body h)
    c.proposed.1.0 c.proposed.1.1 c.proposed.1.2 (le-leb i i (omega arith)) (not_above i (nat_le (i + 1) i) refl)

-- what is found at an instance is chosen for it
pub chosen_found : (n : ℕ) (wire : List Message) (found : ℕ → Option Command) → ((i : ℕ) → IfSome (found i) (λ v. IsChosen n wire i v)) → (at i : ℕ) (v : Command) → at ≡ i → found at ≡ Some v → IsChosen n wire i v
chosen_found n wire found h at i v same e = subst (λ (k : ℕ). IsChosen n wire k v) same (subst (λ (o : Option Command). IfSome o (λ w. IsChosen n wire at w)) e (h at))

-- where nothing is found there isn't something
pub none_found : (found : Option Command) → None ≡ found → IsSome found → ⊥
none_found found e h = true≢false (sym (ap is_some e ∙ h))

-- an element of a list with one more
get_push : (xs : List Command) (v : Command) (i : ℕ) (w : Command) → slice_get (xs ++ v ∷ []) i ≡ Some w → (slice_get xs i ≡ Some w) ⊎ ((i ≡ length xs) × (v ≡ w))
get_push [] v zero w e = inr (refl, cc)
get_push [] v (suc i) w e = absurd (let no : None ≡ Some w = e in cc)
get_push (x ∷ xs) v zero w e = inl e
get_push (x ∷ xs) v (suc i) w e = elim (get_push xs v i w e) [ inl h ↦ inl h | inr h ↦ inr (omega (arith, h.0), h.1) ]

-- a list of chosen commands with one more
pub chosen_push : (n : ℕ) (wire : List Message) (xs : List Command) (v : Command) → IsChosenList n wire xs → IsChosen n wire (length xs) v → IsChosenList n wire (xs ++ v ∷ [])
chosen_push n wire xs v h c i w e = by (get_push xs v i w e)
  where
    by : (slice_get xs i ≡ Some w) ⊎ ((i ≡ length xs) × (v ≡ w)) → IsChosen n wire i w
    by (inl there) = h i w there
    by (inr last) = subst (λ (x : Command). IsChosen n wire i x) last.1 (subst (λ (k : ℕ). IsChosen n wire k v) (sym last.0) c)

-- there is an element at each place of a list
get_there : (xs : List Command) (k : ℕ) → k < length xs → (x : Command) × (slice_get xs k ≡ Some x)
get_there [] k l = absurd (omega arith)
get_there (x ∷ xs) zero l = (x, refl)
get_there (x ∷ xs) (suc k) l = get_there xs k (omega arith)

-- where nothing is chosen for the place behind it, a list of chosen commands is the decided list
pub is_longest : (n : ℕ) (wire : List Message) (xs : List Command) → IsChosenList n wire xs → ((v : Command) → IsChosen n wire (length xs) v → ⊥) → IsDecidedList n wire xs
is_longest n wire xs h none = record { chosen = h; longest = λ other more. by other more (cases_lt (length xs) (length other)) }
  where
    by : (other : List Command) → IsChosenList n wire other → (length xs < length other) ⊎ (length other ≤ length xs) → length other ≤ length xs
    by other more (inl lt) = let t = get_there other (length xs) lt in absurd (none t.0 (more (length xs) t.0 t.1))
    by other more (inr le) = le
