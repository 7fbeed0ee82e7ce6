-- The first instance that no node of the set knows is decided with the client's command, where the lowest of them has it there.
use Rattle.std.proofs.Common.{◌≡◌, ℕ, ◌+◌, ◌-◌, ◌≤◌, ◌<◌, ◌⊎◌, inl, inr, zero, suc, Bool, true, false, ◌==◌, ◌&&◌, ◌||◌, not, nat_lt, is_none, if◌then◌else◌, List, [], ◌∷◌, length, map, Contains, Option, None, Some, refl, ap, sym, ◌∙◌, subst, arith, eq-eqb, eqb-true, le_refl}
use Rattle.std.specs.List.{list_any}
use Rattle.std.specs.Option.{option_map_or}
use Rattle.std.proofs.lemmas.Bool.{false≢true, cases_lt, ne_eqb}
use Rattle.std.proofs.lemmas.Option.{none-some, same_Some}
use Rattle.rr_types.specs.declared.command.Command.{Command}
use Rattle.rr_types.specs.declared.command.RequestNo.{RequestNo}
use Rattle.rr_types.specs.declared.fact.Fact.{Fact}
use Rattle.rr_types.specs.declared.promise.Entry.{Entry}
use Rattle.rr_types.specs.declared.promise.Standing.{Standing}
use Rattle.rr_types.specs.declared.promise.Standing.TheVariants.{Decided, Open}
use Rattle.rr_types.specs.Commands.{is_same_command}
use Rattle.rr_types.specs.Facts.{standing_of}
use Rattle.rr_types.specs.Promises.{AscendsFrom, standing_in, promise_of, decided_from}
use Rattle.rr_types.specs.Registry.{is_same_request, has_request}
use Rattle.rr_types.specs.Rounds.{Estimated, OpenAt, majority_of}
use Rattle.rr_types.specs.Standings.{is_undecided, estimate_of}
use Rattle.rr_model.specs.Lawful.{count_below}
use Rattle.rr_model.specs.NodeState.{Vote, standing_at, open_instances, is_decided_request, decided_prefix}
use Rattle.rr_model.specs.NodeParts.{is_estimate_beside}
use Rattle.rr_model.specs.NodeDue.{best_vote, better}
use Rattle.rr_model.specs.NodeStep.{promised_row, with_vote, next_acknowledged}
use Rattle.rr_model.specs.NodeReached.{opened_over}
use Rattle.rr_model.specs.NodesGoOn.{restarted, IsFreeAt}
use Rattle.rr_model.specs.NodesRestart.{IsNewTo, CanRestartOver, AsTheyAre, OnceMore, CanServeNow, RequestsCanBeServed}
use Rattle.rr_model.proofs.Listed.{counts_no_fewer}
use Rattle.rr_model.proofs.PrefixHolds.{one_more}
use Rattle.rr_model.proofs.SameCommands.{same_request}
use Rattle.rr_model.proofs.Promised.{standing_in-promise_of}
use Rattle.rr_model.proofs.NodePrefixes.{ascends_all, none_below}
use Rattle.rr_model.proofs.Plans.{Largest, largest}
use Rattle.rr_model.proofs.NodeMoves.{if_true, if_false, no_lt}
use Rattle.rr_model.proofs.NodeBeyond.{at_first, restless}
use Rattle.rr_model.proofs.NodesTogether.{Leads}
use Rattle.rr_model.proofs.NodeRestates.{started_same, decides_request, first_decided}
use Rattle.rr_model.proofs.NodesDecide.{HasDecided}
use Rattle.rr_model.proofs.NodesFill.{AreAt, decided_as, chosen, are_further, new_command, any_false}
use Rattle.rr_model.proofs.NodesServe.{takes_it, has_it, owes_it, SubmittedBelow, submitted_below, decided_so}
use Rattle.rr_model.proofs.NodesIdle.{says_opened, view, idle_decide}
use Rattle.rr_model.proofs.NodesReach.{Come, IsFresh, NextOf, next_exactly, fresh_on, none_if, some_if, HaveBegun, begin_them, come_to}

-- a member, or there is none
member_or : (n : ℕ) (set : ℕ → Bool) → ((k : ℕ) × (k < n) × (set k ≡ true)) ⊎ (count_below set n ≤ 0)
member_or zero set = inr (omega arith)
member_or (suc n) set = by (set n) refl (member_or n set)
  where
    by : (b : Bool) → set n ≡ b → ((k : ℕ) × (k < n) × (set k ≡ true)) ⊎ (count_below set n ≤ 0) → ((k : ℕ) × (k < suc n) × (set k ≡ true)) ⊎ ((if b then suc (count_below set n) else count_below set n) ≤ 0)
    by true e r = inl (n, (omega arith), e)
    by false e (inl k) = inl (k.0, (let l : k.0 < n = k.1 in omega arith), k.2)
    by false e (inr l) = inr l

-- a member other than this node
other_member : (n : ℕ) (set : ℕ → Bool) (m : ℕ) → 1 < n → majority_of n ≤ count_below set n → (k : ℕ) × (k < n) × (set k ≡ true) × (k ≡ m → ⊥)
other_member n set m l enough =
    let rest : ℕ → Bool = λ q. if m == q then false else set q in
    let a : count_below set n ≤ count_below (λ q. if m == q then true else (if m == q then false else set q)) n = counts_no_fewer set (λ q. if m == q then true else (if m == q then false else set q)) n (λ q x y. by q (m == q) y) in
    let b : count_below (λ q. if m == q then true else (if m == q then false else set q)) n ≤ suc (count_below (λ q. if m == q then false else set q) n) = one_more (λ q. if m == q then false else set q) m n in
    elim (member_or n (λ q. if m == q then false else set q)) [
      | inl k ↦ found k.0 k.1 (m == k.0) refl k.2
      | inr none ↦ absurd (omega arith)
    ]
  where
    by : (q : ℕ) (b : Bool) → set q ≡ true → (if b then true else (if b then false else set q)) ≡ true
    by q true e = refl
    by q false e = e

    found : (k : ℕ) → k < n → (b : Bool) → (m == k) ≡ b → (if m == k then false else set k) ≡ true → (k : ℕ) × (k < n) × (set k ≡ true) × (k ≡ m → ⊥)
    found k x true e y = absurd (false≢true (sym (if_true (m == k) false (set k) e) ∙ y))
    found k x false e y = (k, x, sym (if_false (m == k) false (set k) e) ∙ y, λ same. false≢true (sym e ∙ eq-eqb m k (sym same)))

-- all of stamp 0
abbrev AllZero : List Vote → Type 0
AllZero [] = Unit {0}
AllZero (v ∷ vs) = (v.stamp ≡ 0) × AllZero vs

zero_stay : (v : Vote) (vs : List Vote) → v.stamp ≡ 0 → AllZero vs → AllZero (with_vote v vs)
zero_stay v [] x a = (x, tt)
zero_stay v (w ∷ ws) x a = by (nat_lt v.sender w.sender) (v.sender == w.sender) (zero_stay v ws x a.1)
  where
    by : (b c : Bool) → AllZero (with_vote v ws) → AllZero (if b then v ∷ w ∷ ws else (if c then w ∷ ws else w ∷ with_vote v ws))
    by true c r = (x, a)
    by false true r = a
    by false false r = (a.0, r)

best_zero : (vs : List Vote) → AllZero vs → (b : Vote) → best_vote vs ≡ Some b → b.stamp ≡ 0
best_zero [] a b e = absurd (none-some b e)
best_zero (v ∷ vs) a b e = subst (λ (z : Vote). z.stamp ≡ 0) (same_Some _ b e) (by (best_vote vs) (best_zero vs a.1))
  where
    by : (o : Option Vote) → ((w : Vote) → o ≡ Some w → w.stamp ≡ 0) → (better v o).stamp ≡ 0
    by None f = a.0
    by (Some w) f = pick (nat_lt v.stamp w.stamp)
      where
        pick : (t : Bool) → (if t then w else v).stamp ≡ 0
        pick true = f w refl
        pick false = a.0

-- the lowest node's vote is for the command, and stands first
record LedBy (m : ℕ) (c : Command) (es : List Vote) : Type 0 where
  vote : Vote
  rest : List Vote
  is : es ≡ vote ∷ rest
  sender : vote.sender ≡ m
  command : vote.command ≡ c
  stamp : vote.stamp ≡ 0
  others : AllZero rest

abbrev Led : ℕ → Command → ℕ → List Vote → Type 0
Led m c a es = ((a ≤ m) × (es ≡ [])) ⊎ ((m < a) × LedBy m c es)

abbrev Lawfully : ℕ → Command → ℕ → Estimated → Type 0
Lawfully m c q e = (e.stamp ≡ 0) × (m ≤ q) × (q ≡ m → e.command ≡ c)

led_more : (m : ℕ) (c : Command) (a : ℕ) (e : Estimated) (es : List Vote) → Lawfully m c a e → Led m c a es → Led m c (suc a) (with_vote (record { sender = a; stamp = e.stamp; command = e.command }) es)
led_more m c a e es F (inl (l, none)) =
    let low : m ≤ a = F.1 in
    let same : a ≡ m = omega arith in
    inr ((omega arith), record { vote = record { sender = a; stamp = e.stamp; command = e.command }; rest = []; is = ap (with_vote (record { sender = a; stamp = e.stamp; command = e.command })) none; sender = same; command = F.2 same; stamp = F.0; others = tt })
led_more m c a e es F (inr (l, L)) =
    let w : Vote = record { sender = a; stamp = e.stamp; command = e.command } in
    let at : L.vote.sender ≡ m = L.sender in
    inr (
      (omega arith),
      record {
        vote = L.vote;
        rest = with_vote w L.rest;
        is = ap (with_vote w) L.is ∙ if_false _ _ _ (no_lt a L.vote.sender (omega arith)) ∙ if_false _ _ _ (ne_eqb a L.vote.sender (λ same. omega arith));
        sender = L.sender;
        command = L.command;
        stamp = L.stamp;
        others = zero_stay w L.rest F.0 L.others;
      },
    )

led_skip : (m : ℕ) (c : Command) (set : ℕ → Bool) → set m ≡ true → (a : ℕ) (es : List Vote) → set a ≡ false → Led m c a es → Led m c (suc a) es
led_skip m c set y a es out (inl (l, none)) = elim (cases_lt a m) [
  | inl x ↦ inl ((omega arith), none)
  | inr x ↦ (let same : a ≡ m = omega arith in absurd (false≢true (sym out ∙ ap set same ∙ y)))
]
led_skip m c set y a es out (inr (l, L)) = inr ((omega arith), L)

led_best : (m : ℕ) (c : Command) (a : ℕ) (es : List Vote) (b : Vote) → Led m c a es → best_vote es ≡ Some b → b.command ≡ c
led_best m c a es b (inl (l, none)) e = absurd (none-some b (ap best_vote (sym none) ∙ e))
led_best m c a es b (inr (l, L)) e = ap (λ (z : Vote). z.command) (same_Some b L.vote (sym e ∙ ap best_vote L.is ∙ ap (λ z. Some z) (first (best_vote L.rest) (best_zero L.rest L.others)))) ∙ L.command
  where
    first : (o : Option Vote) → ((w : Vote) → o ≡ Some w → w.stamp ≡ 0) → better L.vote o ≡ L.vote
    first None f = refl
    first (Some w) f = if_false _ _ _ (ap (λ z. nat_lt z w.stamp) L.stamp ∙ ap (λ z. nat_lt 0 z) (f w refl))

-- a decided row for each instance below the end and no other: a request that a row decides is in the list
decides_first : (q : RequestNo) (next low : ℕ) (x : Entry) (es : List Entry) (w : Command) → x.instance ≡ low → x.standing ≡ Decided w → list_any (decides_request q) (map (promised_row next) es) ≡ has_request (decided_from (low + 1) es) q → list_any (decides_request q) (map (promised_row next) (x ∷ es)) ≡ has_request (decided_from low (x ∷ es)) q
decides_first q next low x es w a b ih = let t : (x.instance == low) ≡ true = eq-eqb x.instance low a in rw (t, b) (by (is_same_request w.request q))
  where
    by : (s : Bool) → (s || list_any (decides_request q) (map (promised_row next) es)) ≡ (if s then true else has_request (decided_from (low + 1) es) q)
    by true = refl
    by false = ih

all_listed : (q : RequestNo) (next end low : ℕ) (es : List Entry) → AscendsFrom low es → ((j : ℕ) → low ≤ j → j < end → is_undecided (standing_in es j) ≡ false) → ((j : ℕ) → end ≤ j → standing_in es j ≡ None) → list_any (decides_request q) (map (promised_row next) es) ≡ has_request (decided_from low es) q
all_listed q next end low [] a d none = refl
all_listed q next end low (x ∷ es) a d none = elim (cases_lt low end) [
  | inl m ↦ (
      let f : (x.instance ≡ low) × (is_undecided (Some x.standing) ≡ false) = first_decided low x es a (d low (le_refl low) m) in
      let at : x.instance ≡ low = f.0 in
      let w : (w : Command) × (x.standing ≡ Decided w) = decided_so x.standing f.1 in
      decides_first q next low x es w.0 at w.1 (all_listed q next end (low + 1) es (subst (λ z. AscendsFrom (z + 1) es) at a.1)
      (λ j k l. sym (ap (λ t. is_undecided (if t then Some x.standing else standing_in es j)) (ne_eqb x.instance j (λ y. omega arith))) ∙ d j (omega arith) l)
      (λ j k. sym (ap (λ t. if t then Some x.standing else standing_in es j) (ne_eqb x.instance j (λ y. omega arith))) ∙ none j k))
      )
  | inr m ↦ (
      let l : low < x.instance + 1 = a.0 in
      absurd (none-some x.standing (sym (none x.instance (omega arith)) ∙ ap (λ t. if t then Some x.standing else standing_in es x.instance) (eq-eqb x.instance x.instance refl)))
      )
]

-- and one that is in the list is decided for an instance
record HeldAt (q : RequestNo) (es : List Entry) : Type 0 where
  instance : ℕ
  command : Command
  stands : standing_in es instance ≡ Some (Decided command)
  same : is_same_request command.request q ≡ true

above_it : (q : RequestNo) (x : Entry) (es : List Entry) → AscendsFrom (x.instance + 1) es → (H : HeldAt q es) → x.instance ≡ H.instance → ⊥
above_it q x es a H same = absurd (none-some (Decided H.command) (sym (none_below H.instance (x.instance + 1) es a (omega arith)) ∙ H.stands))

held_by : (q : RequestNo) (low : ℕ) (x : Entry) (es : List Entry) → AscendsFrom low (x ∷ es) → (AscendsFrom (low + 1) es → has_request (decided_from (low + 1) es) q ≡ true → HeldAt q es) → has_request (decided_from low (x ∷ es)) q ≡ true → (t : Bool) → (x.instance == low) ≡ t → (st : Standing) → x.standing ≡ st → HeldAt q (x ∷ es)
held_by q low x es a ih e false f st g = absurd (false≢true (sym (rw f refl) ∙ e))
held_by q low x es a ih e true f (Open o) g = absurd (false≢true (sym (rw (f, g) refl) ∙ e))
held_by q low x es a ih e true f (Decided w) g = one (is_same_request w.request q) refl (sym (rw (f, g) refl) ∙ e)
  where
    at : x.instance ≡ low
    at = eqb-true x.instance low f

    one : (s : Bool) → is_same_request w.request q ≡ s → (if is_same_request w.request q then true else has_request (decided_from (low + 1) es) q) ≡ true → HeldAt q (x ∷ es)
    one true h y = record { instance = x.instance; command = w; stands = ap (λ t. if t then Some x.standing else standing_in es x.instance) (eq-eqb x.instance x.instance refl) ∙ ap (λ z. Some z) g; same = h }
    one false h y =
        let H : HeldAt q es = ih (subst (λ z. AscendsFrom (z + 1) es) at a.1) (sym (if_false (is_same_request w.request q) true (has_request (decided_from (low + 1) es) q) h) ∙ y) in
        record { instance = H.instance; command = H.command; stands = ap (λ t. if t then Some x.standing else standing_in es H.instance) (ne_eqb x.instance H.instance (λ same. above_it q x es a.1 H same)) ∙ H.stands; same = H.same }

held_at : (q : RequestNo) (low : ℕ) (es : List Entry) → AscendsFrom low es → has_request (decided_from low es) q ≡ true → HeldAt q es
held_at q low [] a e = absurd (false≢true e)
held_at q low (x ∷ es) a e = held_by q low x es a (held_at q (low + 1) es) e (x.instance == low) refl x.standing refl

fresh_undecided : (o : Option Standing) → IsFresh o → is_undecided o ≡ true
fresh_undecided None f = refl
fresh_undecided (Some (Open o)) f = refl
fresh_undecided (Some (Decided v)) f = absurd f

open_same : (x z : OpenAt) → Some (Open x) ≡ Some (Open z) → x ≡ z
open_same x z h = cc

-- instance T stands as it did, or was begun
abbrev Cases : ℕ → List Fact → List Fact → Command → Type 0
Cases T a b d = (standing_of T b ≡ standing_of T a) ⊎ (standing_of T b ≡ Some (Open (at_first d)))

case_of : (T : ℕ) (a b : List Fact) (d : Command) (X Y : Type 0) → (standing_of T b ≡ standing_of T a) ⊎ ((standing_of T b ≡ Some (Open (at_first d))) × X × Y) → Cases T a b d
case_of T a b d X Y (inl e) = inl e
case_of T a b d X Y (inr e) = inr e.0

still_fresh : (T : ℕ) (a b : List Fact) (d : Command) → IsFresh (standing_of T a) → Cases T a b d → IsFresh (standing_of T b)
still_fresh T a b d f (inl e) = fresh_on _ _ e f
still_fresh T a b d f (inr e) = fresh_on (Some (Open (at_first d))) _ e refl

is_there : (T : ℕ) (a b : List Fact) (d : Command) (t : Bool) → is_none (standing_of T a) ≡ t → (t ≡ true → standing_of T b ≡ Some (Open (at_first d))) → ((t ≡ true → T ≡ T → ⊥) → standing_of T b ≡ standing_of T a) → standing_of T b ≡ None → ⊥
is_there T a b d true x told rest e = none-some _ (sym e ∙ told refl)
is_there T a b d false x told rest e = some_if (standing_of T a) x (sym (rest (λ t. absurd (false≢true t))) ∙ e)

-- the nodes have come to T, which none has decided
module _ (n : ℕ) (set : ℕ → Bool) (c : Command) (facts : ℕ → List Fact) (m T bound k : ℕ) (enough : majority_of n ≤ count_below set n) (small : T < 1048576) (one : 1 ≤ bound) (most : bound + n ≤ 2147483647) (exists : k < n) (member : set k ≡ true) (here : m < n) (in_set : set m ≡ true) (low : (q : ℕ) → q < n → set q ≡ true → m ≤ q) (C : Come n set c facts m T bound T) where
  -- where a request is decided at each, they serve it
  serves : (kept : ℕ → List Fact) → CanRestartOver n set (Some c) facts kept → (last i : ℕ) → AreAt n set bound last (suc i) kept → (v : Command) → v.request ≡ c.request → ((q : ℕ) → q < n → set q ≡ true → standing_of i (kept q) ≡ Some (Decided v)) → CanServeNow n set facts c
  serves kept restarts last i A v request at =
      let below : (q : ℕ) → q < n → set q ≡ true → (j : ℕ) → j < i → is_undecided (standing_of j (kept q)) ≡ false = λ q l y j x. A.below q l y j (omega arith) in
      let S : SubmittedBelow n set kept c (λ q l y. takes_it n q i (kept q) c v (below q l y) (at q l y) request) n = submitted_below n set kept c (λ q l y. takes_it n q i (kept q) c v (below q l y) (at q l y) request) n (le_refl n) in
      record {
        kept = kept;
        restarts = restarts;
        end = S.end;
        goes_on = S.goes;
        command = v;
        request = request;
        is_listed = λ q l y. subst (λ z. Contains (decided_prefix z) v) (sym (S.done q l y)) (has_it n q i (kept q) c v (below q l y) (at q l y) request);
        is_due = λ q l y. ap next_acknowledged (S.done q l y) ∙ owes_it n q i (kept q) c v (below q l y) (at q l y) request;
      }

  opened_stands : (j : ℕ) → standing_at (opened_over n m (C.kept m)) j ≡ standing_of j (C.kept m)
  opened_stands j = says_opened n m (C.kept m) (C.at.fit m here in_set) j

  -- node m has no estimate
  no_estimate : (j : ℕ) → estimate_of (standing_of j (C.kept m)) ≡ None
  no_estimate j = elim (cases_lt j T) [
    | inl x ↦ (let w : (w : Command) × (standing_of j (C.kept m) ≡ Some (Decided w)) = decided_as (standing_of j (C.kept m)) (C.at.below m here in_set j x) in ap estimate_of w.1)
    | inr x ↦ ap estimate_of (C.clear j x)
  ]

  free_beside : is_estimate_beside (opened_over n m (C.kept m)) T c ≡ false
  free_beside = any_false _ (open_instances (opened_over n m (C.kept m))) (λ j. ap (λ z. not (j == T) && option_map_or (λ v. is_same_command v c) z false) (ap estimate_of (opened_stands j) ∙ no_estimate j) ∙ never (not (j == T)))
    where
      never : (b : Bool) → (b && false) ≡ false
      never true = refl
      never false = refl

  -- the request is decided already
  served_before : is_decided_request (opened_over n m (C.kept m)) c.request ≡ true → CanServeNow n set facts c
  served_before e =
      let any : list_any (decides_request c.request) (map (promised_row (length (C.kept m))) (promise_of (C.kept m))) ≡ true = sym (ap (list_any (decides_request c.request)) (started_same n m (promise_of (C.kept m)) (length (C.kept m))).0) ∙ e in
      let held : has_request (decided_from 0 (promise_of (C.kept m))) c.request ≡ true =
      sym (all_listed c.request (length (C.kept m)) T 0 (promise_of (C.kept m)) (ascends_all [] (C.kept m) tt) (λ j z l. ap is_undecided (standing_in-promise_of (C.kept m) j) ∙ C.at.below m here in_set j l) (λ j z. standing_in-promise_of (C.kept m) j ∙ C.clear j z)) ∙ any in
      let H : HeldAt c.request (promise_of (C.kept m)) = held_at c.request 0 (promise_of (C.kept m)) (ascends_all [] (C.kept m) tt) held in
      let stands : standing_of H.instance (C.kept m) ≡ Some (Decided H.command) = sym (standing_in-promise_of (C.kept m) H.instance) ∙ H.stands in
      elim (cases_lt H.instance T) [
        | inl l ↦ serves C.kept C.restarts (suc T) H.instance (lower H.instance l) H.command (same_request H.command.request c.request H.same) (λ q x y.
            let w : (w : Command) × (standing_of H.instance (C.kept q) ≡ Some (Decided w)) = decided_as (standing_of H.instance (C.kept q)) (C.at.below q x y H.instance l) in
            w.1 ∙ ap (λ z. Some (Decided z)) (C.at.agreed H.instance q m w.0 H.command x y here in_set w.1 stands))
        | inr l ↦ absurd (none-some (Decided H.command) (sym (C.clear H.instance l) ∙ stands))
      ]
    where
      lower : (j : ℕ) → j < T → AreAt n set bound (suc T) (suc j) C.kept
      lower j l = record { fit = C.at.fit; rounds = C.at.rounds; below = λ q x y i z. C.at.below q x y i (omega arith); agreed = C.at.agreed }

  -- or it is free at node m, which begins T with it; the others that have no fact of T begin it with a new command
  served_anew : is_decided_request (opened_over n m (C.kept m)) c.request ≡ false → CanServeNow n set facts c
  served_anew free =
      let can : (q : ℕ) → q < n → set q ≡ true → (q == m) ≡ true → (standing_of T (C.kept q) ≡ None) × IsFreeAt n q T c (C.kept q) = λ q l y x. subst (λ z. (standing_of T (C.kept z) ≡ None) × IsFreeAt n z T c (C.kept z)) (sym (eqb-true q m x)) (C.clear T (le_refl T), (free, free_beside)) in
      let G : HaveBegun n set bound (suc T) T C.kept c (λ q. q == m) small one C.at can = begin_them n set bound (suc T) T C.kept c (λ q. q == m) small one C.at can in
      let d : (d : Command) × IsNewTo n set G.after d = new_command n set G.after in
      let can2 : (q : ℕ) → q < n → set q ≡ true → is_none (standing_of T (G.after q)) ≡ true → (standing_of T (G.after q) ≡ None) × IsFreeAt n q T d.0 (G.after q) = λ q l y x. (none_if _ x, d.1 q l y T) in
      let H : HaveBegun n set bound (suc T) T G.after d.0 (λ q. is_none (standing_of T (G.after q))) small one G.at can2 = begin_them n set bound (suc T) T G.after d.0 (λ q. is_none (standing_of T (G.after q))) small one G.at can2 in
      let mine1 : standing_of T (G.after m) ≡ Some (Open (at_first c)) = (G.next m here in_set).here (eq-eqb m m refl) in
      let mine2 : standing_of T (H.after m) ≡ Some (Open (at_first c)) = (H.next m here in_set).others T (λ x same. some_if (standing_of T (G.after m)) (ap is_none mine1) (none_if _ x)) ∙ mine1 in
      let fresh1 : (q : ℕ) → q < n → set q ≡ true → IsFresh (standing_of T (G.after q)) = λ q l y. still_fresh T (C.kept q) (G.after q) c (C.fresh q l y T (le_refl T)) (case_of T (C.kept q) (G.after q) c _ _ (view n set bound (suc T) T C.kept G.after c G.end (λ j. j == m) one C.at G.next q l y T)) in
      let fresh2 : (q : ℕ) → q < n → set q ≡ true → IsFresh (standing_of T (H.after q)) = λ q l y. still_fresh T (G.after q) (H.after q) d.0 (fresh1 q l y) (case_of T (G.after q) (H.after q) d.0 _ _ (view n set bound (suc T) T G.after H.after d.0 H.end (λ j. is_none (standing_of T (G.after j))) one G.at H.next q l y T)) in
      let some : (q : ℕ) → q < n → set q ≡ true → standing_of T (H.after q) ≡ None → ⊥ = λ q l y e. is_there T (G.after q) (H.after q) d.0 (is_none (standing_of T (G.after q))) refl (H.next q l y).here ((H.next q l y).others T) e in
      let e : (d : Command) × IsNewTo n set H.after d = new_command n set H.after in
      let x : (r : ℕ) × Leads T r restless n set e.0 (restarted n H.after) (λ h. (v : Command) × (v ≡ c) × ((q : ℕ) → q < n → set q ≡ true → HasDecided T v (h.state q))) =
      idle_decide n set bound (suc T) T H.after e.0 restless enough (omega arith) small most H.at some (Lawfully m c) (λ v. v ≡ c) k exists member (λ f. f) (λ q l y. fresh_undecided _ (fresh2 q l y))
      (λ r q l y o f. (subst IsFresh f (fresh2 q l y), low q l y, λ same. ap (λ (z : OpenAt). z.estimate) (sym (open_same (at_first c) o (sym mine2 ∙ ap (λ z. standing_of T (H.after z)) (sym same) ∙ f)))))
      (Led m c) (inl ((omega arith), refl)) (λ a f es y fair. led_more m c a f es fair) (led_skip m c set in_set) (led_best m c) in
      let L : Leads T x.0 restless n set e.0 (restarted n H.after) (λ h. (v : Command) × (v ≡ c) × ((q : ℕ) → q < n → set q ≡ true → HasDecided T v (h.state q))) = x.1 in
      let all : (q : ℕ) → (fs : List Fact) × (q < n → set q ≡ true → NextOf n q T L.goal.0 (H.after q) (L.end.state q) ⊥ fs) = chosen n set (λ q fs. NextOf n q T L.goal.0 (H.after q) (L.end.state q) ⊥ fs) (λ q l y. next_exactly n q T x.0 L.goal.0 (H.after q) (L.end.state q) ⊥ (H.at.fit q l y) (L.up q l y) (L.goal.2 q l y) (L.keeps q l y)) in
      let restarts : CanRestartOver n set (Some c) facts (λ q. (all q).0) =
      OnceMore H.after (λ q. (all q).0) e.0 L.end (OnceMore G.after H.after d.0 H.end (OnceMore C.kept G.after c G.end C.restarts (inl refl) G.goes (λ q l y. (G.next q l y).marked)) (inr d.1) H.goes (λ q l y. (H.next q l y).marked)) (inr e.1) L.goes (λ q l y. (((all q).1 l y).next).marked) in
      serves (λ q. (all q).0) restarts (suc T) T (are_further n set bound (suc T) T H.after (λ q. (all q).0) L.goal.0 L.end one H.at (λ q l y. ((all q).1 l y).next)) L.goal.0 (ap (λ (z : Command). z.request) L.goal.1) (λ q l y. (((all q).1 l y).next).here)

  serves_it : CanServeNow n set facts c
  serves_it = by (is_decided_request (opened_over n m (C.kept m)) c.request) refl
    where
      by : (b : Bool) → is_decided_request (opened_over n m (C.kept m)) c.request ≡ b → CanServeNow n set facts c
      by true e = served_before e
      by false e = served_anew e

-- so they can serve each request
pub serve_new : RequestsCanBeServed
serve_new n set facts bound end c two enough small one most room unknown agreed =
    let M : Largest n set (λ q. n - q) = largest n set (λ q. n - q) enough in
    let here : M.0 < n = M.1.0 in
    let k : (k : ℕ) × (k < n) × (set k ≡ true) × (k ≡ M.0 → ⊥) = other_member n set M.0 two enough in
    let C : Come n set c facts M.0 end bound 0 = record {
      kept = facts;
      restarts = AsTheyAre;
      at = record { fit = λ q l y. (room q l y).fit; rounds = λ q l y j o x e. rounds_of q l y j o x e; below = λ q l y j x. absurd (omega arith); agreed = agreed };
      clear = λ j x. unknown M.0 M.1.0 M.1.1 j x;
      fresh = λ q l y j x. subst IsFresh (sym (unknown q l y j x)) tt;
    } in
    let D : Come n set c facts M.0 end bound end = come_to n set c facts M.0 end bound k.0 enough small one most k.1 k.2 k.3 M.1.0 M.1.1 C end (le_refl end) in
    serves_it n set c facts M.0 end bound k.0 enough small one most k.1 k.2 M.1.0 M.1.1 (λ q l y. let x : n - q ≤ n - M.0 = M.2 q (l, y) in omega arith) D
  where
    rounds_of : (q : ℕ) → q < n → set q ≡ true → (j : ℕ) (o : OpenAt) → j < suc end → standing_of j (facts q) ≡ Some (Open o) → o.round ≤ bound
    rounds_of q l y j o x e = elim (cases_lt j end) [
      | inl m ↦ (room q l y).rounds j o m e
      | inr m ↦ absurd (none-some (Open o) (sym (unknown q l y j m) ∙ e))
    ]
