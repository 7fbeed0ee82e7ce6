-- Whether a command is chosen for an instance can be found out, so each wire has a decided list, and only one.
use Rattle.std.proofs.Common.{◌≡◌, ℕ, ◌+◌, ◌<◌, ◌≤◌, ◌⊎◌, inl, inr, zero, suc, Bool, true, false, ◌==◌, ◌&&◌, ◌||◌, if◌then◌else◌, List, [], ◌∷◌, ◌++◌, length, Contains, get_or, Option, None, Some, slice_get, refl, ap, sym, subst, arith, eqb-true, eq-eqb, le_of_suc-le-suc, add-zero}
use Rattle.std.proofs.lemmas.Bool.{false≢true, cases_eq, cases_lt, and_parts, and_from, or_cases, or_left, or_right}
use Rattle.std.proofs.lemmas.Option.{none-some, same_Some}
use Rattle.rr_types.specs.declared.command.Command.{Command}
use Rattle.rr_types.specs.declared.message.Body.{Body}
use Rattle.rr_types.specs.declared.message.Body.TheVariants.{Estimate, Proposal, Ack, Decision, Request, Nack, Beat, Suspects, Ask}
use Rattle.rr_types.specs.declared.message.Message.{Message}
use Rattle.rr_types.specs.Rounds.{majority_of}
use Rattle.rr_model.specs.Lawful.{Says, HasMajority, count_below}
use Rattle.rr_model.specs.Sound.{IsChosen, IsChosenList, IsDecidedList}
use Rattle.rr_model.proofs.Prefixes.{Begins}

-- whether a body acknowledges round r of instance i
abbrev pub is_ack : ℕ → ℕ → Body → Bool
is_ack i r (Estimate j e) = false
is_ack i r (Proposal j k v) = false
is_ack i r (Ack j k) = j == i && k == r
is_ack i r (Decision j v) = false
is_ack i r (Request c) = false
is_ack i r (Nack j k) = false
is_ack i r Beat = false
is_ack i r (Suspects set) = false
is_ack i r (Ask j) = false

-- whether node q acknowledges it among the messages
abbrev pub acks : List Message → ℕ → ℕ → ℕ → Bool
acks [] i r q = false
acks (m ∷ ms) i r q = (m.from == q && is_ack i r m.body) || acks ms i r q

ack_body : (i r : ℕ) (b : Body) → is_ack i r b ≡ true → b ≡ Ack i r
ack_body i r (Estimate j e) t = absurd (false≢true t)
ack_body i r (Proposal j k v) t = absurd (false≢true t)
ack_body i r (Ack j k) t =
    let x : j ≡ i = eqb-true j i (and_parts (j == i) (k == r) t).0 in
    let y : k ≡ r = eqb-true k r (and_parts (j == i) (k == r) t).1 in
    cc
ack_body i r (Decision j v) t = absurd (false≢true t)
ack_body i r (Request c) t = absurd (false≢true t)
ack_body i r (Nack j k) t = absurd (false≢true t)
ack_body i r Beat t = absurd (false≢true t)
ack_body i r (Suspects set) t = absurd (false≢true t)
ack_body i r (Ask j) t = absurd (false≢true t)

pub says_tail : (m : Message) (ms : List Message) (q : ℕ) (b : Body) → Says ms q b → Says (m ∷ ms) q b
says_tail m ms q b s = (s.0, (suc (s.1).0, (let l : (s.1).0 < length ms = (s.1).1 in omega arith), (s.1).2))

pub says_head : (m : Message) (ms : List Message) (q : ℕ) (b : Body) → m.from ≡ q → m.body ≡ b → Says (m ∷ ms) q b
says_head m ms q b x y = (m.to, (0, omega arith, (let e : m ≡ record { from = q; to = m.to; body = b } = same m q b x y in e)))
  where
    same : (m : Message) (q : ℕ) (b : Body) → m.from ≡ q → m.body ≡ b → m ≡ record { from = q; to = m.to; body = b }
    same m q b x y = λ i. record { from = x i; to = m.to; body = y i }

acks_says : (ms : List Message) (i r q : ℕ) → acks ms i r q ≡ true → Says ms q (Ack i r)
acks_says [] i r q t = absurd (false≢true t)
acks_says (m ∷ ms) i r q t = elim (or_cases (m.from == q && is_ack i r m.body) (acks ms i r q) t) [
  | inl h ↦ (let p : ((m.from == q) ≡ true) × (is_ack i r m.body ≡ true) = and_parts (m.from == q) (is_ack i r m.body) h in says_head m ms q (Ack i r) (eqb-true m.from q p.0) (ack_body i r m.body p.1))
  | inr h ↦ says_tail m ms q (Ack i r) (acks_says ms i r q h)
]

acks_at : (ms : List Message) (i r q to k : ℕ) → k < length ms → get_or ms k (record { from = q; to = to; body = Ack i r }) ≡ record { from = q; to = to; body = Ack i r } → acks ms i r q ≡ true
acks_at [] i r q to k l e = absurd (omega arith)
acks_at (m ∷ ms) i r q to zero l e = subst (λ (z : Message). ((z.from == q && is_ack i r z.body) || acks ms i r q) ≡ true) (sym e) (or_left (q == q && (i == i && r == r)) (acks ms i r q) (and_from (q == q) (i == i && r == r) (eq-eqb q q refl) (and_from (i == i) (r == r) (eq-eqb i i refl) (eq-eqb r r refl))))
acks_at (m ∷ ms) i r q to (suc k) l e = or_right (m.from == q && is_ack i r m.body) (acks ms i r q) (acks_at ms i r q to k (le_of_suc-le-suc l) e)

pub says_acks : (ms : List Message) (i r q : ℕ) → Says ms q (Ack i r) → acks ms i r q ≡ true
says_acks ms i r q s = acks_at ms i r q s.0 (s.1).0 (s.1).1 (s.1).2

count_one : (x y : Bool) (a b : ℕ) → (x ≡ true → y ≡ true) → a ≤ b → (if x then suc a else a) ≤ (if y then suc b else b)
count_one true true a b f l = omega arith
count_one true false a b f l = absurd (false≢true (f refl))
count_one false true a b f l = omega arith
count_one false false a b f l = l

-- a larger set has no fewer members
pub counts_no_fewer : (f g : ℕ → Bool) (n : ℕ) → ((q : ℕ) → q < n → f q ≡ true → g q ≡ true) → count_below f n ≤ count_below g n
counts_no_fewer f g zero h = omega arith
counts_no_fewer f g (suc n) h = count_one (f n) (g n) (count_below f n) (count_below g n) (h n (omega arith)) (counts_no_fewer f g n (λ q l. h q (omega arith)))

-- a majority has acknowledged the round, or none has
majority_or_not : (n : ℕ) (ms : List Message) (i r : ℕ) → HasMajority n (λ q. Says ms q (Ack i r)) ⊎ (HasMajority n (λ q. Says ms q (Ack i r)) → ⊥)
majority_or_not n ms i r = elim (cases_lt (count_below (acks ms i r) n) (majority_of n)) [
  | inl few ↦ inr (λ h. let l : count_below h.members n ≤ count_below (acks ms i r) n = counts_no_fewer h.members (acks ms i r) n (λ q x m. says_acks ms i r q (h.each q x m)) in let e : majority_of n ≤ count_below h.members n = h.enough in not_both (count_below h.members n) (count_below (acks ms i r) n) (majority_of n) l e few)
  | inr enough ↦ inl (record { members = acks ms i r; enough = enough; each = λ q x m. acks_says ms i r q m })
]
  where
    not_both : (a b c : ℕ) → a ≤ b → c ≤ a → b < c → ⊥
    not_both a b c x y z = omega arith

-- a command chosen by a proposal among these messages, or none is
abbrev Found : ℕ → List Message → ℕ → List Message → Type 0
Found n wire i ms = ((v : Command) × IsChosen n wire i v) ⊎ ((r q : ℕ) (v : Command) → Says ms q (Proposal i r v) → HasMajority n (λ p. Says wire p (Ack i r)) → ⊥)

pub says_cases : (m : Message) (ms : List Message) (q : ℕ) (b : Body) → Says (m ∷ ms) q b → ((m.from ≡ q) × (m.body ≡ b)) ⊎ Says ms q b
says_cases m ms q b s = at_index (s.1).0 (s.1).1 (s.1).2
  where
    at_index : (k : ℕ) → k < length (m ∷ ms) → get_or (m ∷ ms) k (record { from = q; to = s.0; body = b }) ≡ record { from = q; to = s.0; body = b } → ((m.from ≡ q) × (m.body ≡ b)) ⊎ Says ms q b
    at_index zero l e = inl (ap (λ (z : Message). z.from) e, ap (λ (z : Message). z.body) e)
    at_index (suc k) l e = inr (s.0, (k, le_of_suc-le-suc l, e))

-- one message more, which is no proposal for the instance
not_here : (n : ℕ) (wire : List Message) (i : ℕ) (m : Message) (ms : List Message) → ((r : ℕ) (v : Command) → m.body ≡ Proposal i r v → HasMajority n (λ p. Says wire p (Ack i r)) → ⊥) → Found n wire i ms → Found n wire i (m ∷ ms)
not_here n wire i m ms other (inl f) = inl f
not_here n wire i m ms other (inr f) = inr (λ r q v s h. elim (says_cases m ms q (Proposal i r v) s) [
  | inl x ↦ other r v x.1 h
  | inr x ↦ f r q v x h
])

found_body : (n : ℕ) (wire : List Message) (i : ℕ) (from to : ℕ) (b : Body) (ms : List Message) → Contains wire (record { from = from; to = to; body = b }) → Found n wire i ms → Found n wire i (record { from = from; to = to; body = b } ∷ ms)
found_body n wire i from to (Estimate j e) ms c f = not_here n wire i (record { from = from; to = to; body = Estimate j e }) ms (λ r v x h. cc) f
found_body n wire i from to (Proposal j k w) ms c f = elim (cases_eq j i) [
  | inl same ↦ elim (majority_or_not n wire i k) [
    | inl h ↦ inl (w, record { round = k; proposer = from; proposed = (to, subst (λ z. Contains wire (record { from = from; to = to; body = Proposal z k w })) same c); acknowledged = h })
    | inr h ↦ not_here n wire i (record { from = from; to = to; body = Proposal j k w }) ms (λ r v x y. h (let e : k ≡ r = cc in subst (λ z. HasMajority n (λ p. Says wire p (Ack i z))) (sym e) y)) f
  ]
  | inr other ↦ not_here n wire i (record { from = from; to = to; body = Proposal j k w }) ms (λ r v x h. other (cc)) f
]
found_body n wire i from to (Ack j k) ms c f = not_here n wire i (record { from = from; to = to; body = Ack j k }) ms (λ r v x h. cc) f
found_body n wire i from to (Decision j w) ms c f = not_here n wire i (record { from = from; to = to; body = Decision j w }) ms (λ r v x h. cc) f
found_body n wire i from to (Request w) ms c f = not_here n wire i (record { from = from; to = to; body = Request w }) ms (λ r v x h. cc) f
found_body n wire i from to (Nack j k) ms c f = not_here n wire i (record { from = from; to = to; body = Nack j k }) ms (λ r v x h. cc) f
found_body n wire i from to Beat ms c f = not_here n wire i (record { from = from; to = to; body = Beat }) ms (λ r v x h. cc) f
found_body n wire i from to (Suspects set) ms c f = not_here n wire i (record { from = from; to = to; body = Suspects set }) ms (λ r v x h. cc) f
found_body n wire i from to (Ask j) ms c f = not_here n wire i (record { from = from; to = to; body = Ask j }) ms (λ r v x h. cc) f

found : (n : ℕ) (wire : List Message) (i : ℕ) (ms : List Message) → ((m : Message) → Contains ms m → Contains wire m) → Found n wire i ms
found n wire i [] sub = inr (λ r q v s h. let l : (s.1).0 < 0 = (s.1).1 in omega arith)
found n wire i (m ∷ ms) sub = found_body n wire i m.from m.to m.body ms (sub m (0, omega arith, refl)) (found n wire i ms (λ x c. sub x (suc c.0, omega arith, c.2)))

-- a command is chosen for the instance, or none is
pub chosen_or_not : (n : ℕ) (wire : List Message) (i : ℕ) → ((v : Command) × IsChosen n wire i v) ⊎ ((v : Command) → IsChosen n wire i v → ⊥)
chosen_or_not n wire i = elim (found n wire i wire (λ m c. c)) [
  | inl f ↦ inl f
  | inr f ↦ inr (λ v c. f c.round c.proposer v c.proposed c.acknowledged)
]

-- the instance of a proposal
abbrev proposed_in : Body → ℕ
proposed_in (Estimate j e) = 0
proposed_in (Proposal j k v) = j
proposed_in (Ack j k) = 0
proposed_in (Decision j v) = 0
proposed_in (Request c) = 0
proposed_in (Nack j k) = 0
proposed_in Beat = 0
proposed_in (Suspects set) = 0
proposed_in (Ask j) = 0

-- a number above the instance of each proposal
abbrev bound_of : List Message → ℕ
bound_of [] = 0
bound_of (m ∷ ms) = suc (proposed_in m.body) + bound_of ms

below_bound : (ms : List Message) (q i r : ℕ) (v : Command) (to k : ℕ) → k < length ms → get_or ms k (record { from = q; to = to; body = Proposal i r v }) ≡ record { from = q; to = to; body = Proposal i r v } → i < bound_of ms
below_bound [] q i r v to k l e = absurd (omega arith)
below_bound (m ∷ ms) q i r v to zero l e = let x : proposed_in m.body ≡ i = ap (λ (z : Message). proposed_in z.body) e in omega arith
below_bound (m ∷ ms) q i r v to (suc k) l e = let x : i < bound_of ms = below_bound ms q i r v to k (le_of_suc-le-suc l) e in omega arith

-- the chosen commands from instance i on, up to the first without one
record Run (n : ℕ) (wire : List Message) (i : ℕ) : Type 0 where
  list : List Command
  chosen : (k : ℕ) (v : Command) → slice_get list k ≡ Some v → IsChosen n wire (i + k) v
  ends : (v : Command) → IsChosen n wire (i + length list) v → ⊥

stop : (n : ℕ) (wire : List Message) (i : ℕ) → ((v : Command) → IsChosen n wire i v → ⊥) → Run n wire i
stop n wire i none = record {
  list = [];
  chosen = λ k v e. absurd (none-some v e);
  ends = λ v c. none v (subst (λ z. IsChosen n wire z v) (add-zero i) c);
}

go_on : (n : ℕ) (wire : List Message) (i : ℕ) (v : Command) → IsChosen n wire i v → Run n wire (i + 1) → Run n wire i
go_on n wire i v c r = record {
  list = v ∷ r.list;
  chosen = λ k w e. at_place k w e;
  ends = λ w d. r.ends w (let e : i + suc (length r.list) ≡ (i + 1) + length r.list = omega arith in subst (λ z. IsChosen n wire z w) e d);
}
  where
    at_place : (k : ℕ) (w : Command) → slice_get (v ∷ r.list) k ≡ Some w → IsChosen n wire (i + k) w
    at_place zero w e = subst (λ z. IsChosen n wire z w) (sym (add-zero i)) (subst (IsChosen n wire i) (same_Some v w e) c)
    at_place (suc k) w e = let s : (i + 1) + k ≡ i + suc k = omega arith in subst (λ z. IsChosen n wire z w) s (r.chosen k w e)

walk : (n : ℕ) (wire : List Message) (fuel i : ℕ) → bound_of wire ≤ i + fuel → Run n wire i
walk n wire zero i l = stop n wire i (λ v c. let x : i < bound_of wire = below_bound wire c.proposer i c.round v (c.proposed).0 ((c.proposed).1).0 ((c.proposed).1).1 ((c.proposed).1).2 in omega arith)
walk n wire (suc fuel) i l = elim (chosen_or_not n wire i) [
  | inl f ↦ go_on n wire i f.0 f.1 (walk n wire fuel (i + 1) (omega arith))
  | inr none ↦ stop n wire i none
]

-- there is a decided list
pub decided_list : (n : ℕ) (wire : List Message) → (list : List Command) × IsDecidedList n wire list
decided_list n wire =
    let r : Run n wire 0 = walk n wire (bound_of wire) 0 (omega arith) in (
      r.list,
      record {
        chosen = λ i v e. subst (λ z. IsChosen n wire z v) (let z : 0 + i ≡ i = omega arith in z) (r.chosen i v e);
        longest = λ other c. not_longer r other c;
      },
    )
  where
    longer : (r : Run n wire 0) (other : List Command) → IsChosenList n wire other → length r.list < length other → (o : Option Command) → slice_get other (length r.list) ≡ o → length other ≤ length r.list
    longer r other c l None e = absurd (too_short other (length r.list) l e)
      where
        too_short : (xs : List Command) (k : ℕ) → k < length xs → slice_get xs k ≡ None → ⊥
        too_short [] k l e = omega arith
        too_short (x ∷ xs) zero l e = cc
        too_short (x ∷ xs) (suc k) l e = too_short xs k (le_of_suc-le-suc l) e
    longer r other c l (Some w) e = absurd (r.ends w (subst (λ z. IsChosen n wire z w) (let z : length r.list ≡ 0 + length r.list = omega arith in z) (c (length r.list) w e)))

    not_longer : (r : Run n wire 0) (other : List Command) → IsChosenList n wire other → length other ≤ length r.list
    not_longer r other c = elim (cases_lt (length r.list) (length other)) [
      | inl l ↦ longer r other c l (slice_get other (length r.list)) refl
      | inr l ↦ l
    ]

-- a list of chosen commands is a beginning of each longer one, where one command is chosen for an instance
pub begins_by_places : (xs ys : List Command) → length xs ≤ length ys → ((k : ℕ) (v w : Command) → slice_get xs k ≡ Some v → slice_get ys k ≡ Some w → v ≡ w) → Begins xs ys
begins_by_places [] ys l f = record { rest = ys; is = refl }
begins_by_places (x ∷ xs) [] l f = absurd (omega arith)
begins_by_places (x ∷ xs) (y ∷ ys) l f =
    let r : Begins xs ys = begins_by_places xs ys (le_of_suc-le-suc l) (λ k. f (suc k)) in
    let e : x ≡ y = f 0 x y refl refl in
    let t : xs ++ r.rest ≡ ys = r.is in
    record { rest = r.rest; is = cc }
