-- Taking a group, putting it back and marking it keep what holds of a core between calls.
use Rattle.std.proofs.Common.{◌≡◌, ◌≢◌, ◌+◌, ◌-◌, ◌^◌, ◌<◌, ◌≤◌, ℕ, arith, min, Bool, true, false, cond, ◌==◌, List, [], ◌∷◌, ◌++◌, length, take, drop, ap, sym, ◌∙◌, refl, subst, Option, Some, None, is_some, option_map, IsTrue, ◌↔◌, MatchOption, rules, IfSome, IsSome, Result, Ok, Err, IfOk, OnOk, OnErr}
use Rattle.std.specs.Prelude.{find, slice_get}
use Rattle.std.specs.Option.{option_map_or}
use Rattle.std.proofs.lemmas.List.{take-append-drop, take_more, length-take, length-drop, length-append}
use Rattle.std.proofs.lemmas.Bool.{false≢true, eqb-true}
use Rattle.std.proofs.lemmas.Option.{none-some, slice_get_within, get_or_from_slice_get}
use Rattle.rr_types.specs.declared.command.RequestNo.{RequestNo}
use Rattle.rr_types.specs.declared.command.Command.{Command}
use Rattle.rr_types.specs.declared.command.Reply.{Reply}
use Rattle.rr_types.specs.declared.fact.Fact.{Fact}
use Rattle.rr_types.specs.declared.fact.Fact.TheVariants.{Enter, Propose, Adopt, Decide}
use Rattle.rr_types.specs.declared.promise.Standing.{Standing}
use Rattle.rr_types.specs.declared.promise.Standing.TheVariants.{Decided, Open}
use Rattle.rr_types.specs.declared.promise.Entry.{Entry}
use Rattle.rr_types.specs.declared.refusal.Refusal.{Refusal}
use Rattle.rr_types.specs.Registry.{has_request, is_same_request, Bindings, apply, firsts, firsts_beside, reply_after, registry_of, reply_of}
use Rattle.rr_types.specs.Groups.{Grouped}
use Rattle.rr_types.specs.Facts.{instance_of, after_fact, decision_of}
use Rattle.rr_types.specs.Promises.{standing_in, take_on, take_on_all, all_fit, decided_from}
use Rattle.rr_types.specs.Standings.{fits, is_undecided}
use Rattle.rr_types.proofs.StandingLemmas.{fits_in_round}
use Rattle.rr_registry.specs.Kept.{Kept, kept_of, kept_reply}
use Rattle.rr_registry.proofs.KeptLemmas.{reply-kept_of, bindings-kept_of}
use Rattle.rr_model.specs.NodeState.{NodeState, Row, decided_prefix, standing_at}
use Rattle.rr_model.specs.NodeStep.{group_taken, group_put_back, marked_running, running_group, message_left, next_acknowledged, acknowledged}
use Rattle.rr_model.proofs.Fits.{take_both, fit_first, fit_later}
use Rattle.rr_model.proofs.Promised.{standing_in-take_on}
use Rattle.rr_state.specs.Arrived.{without_first}
use Rattle.rr_state.specs.Listed.{AllInRound, KeepsPromised, HaveRows}
use Rattle.rr_state.proofs.MarkLemmas.{ascend_all, none_before}
use Rattle.rr_core.specs.Lawful.{IsLawful, unmarked_facts}
use Rattle.rr_core.specs.Kept.{IsKept}
use Rattle.rr_state.proofs.SameLemmas.{and_left, and_right, request_is}
use Rattle.rr_core.proofs.LeavingLemmas.{find_same, without_held}

-- facts that moved between the running group and those staged are the same facts
lawful_moved : (s : NodeState) (running : Option (List Fact)) (staged : List Fact) → option_map_or (λ facts. facts) running [] ++ staged ≡ unmarked_facts s → IfSome running (λ facts. (1 ≤ length facts) × (length facts ≤ 64)) → IsLawful s → IsLawful (record s { running = running; staged = staged })
lawful_moved s running staged e few h = record {
  ascends = h.ascends;
  fits = ap (all_fit s.nodes s.node s.marked) e ∙ h.fits;
  stands = λ i. h.stands i ∙ ap (λ fs. standing_in (take_on_all s.marked fs) i) (sym e);
  few = few;
}

-- a taken group
taken_kept : (s t : NodeState) (k : Kept) → s.running ≡ None → s.staged ≢ [] → t ≡ group_taken s → IsKept s k → IsKept t k
unfolding group_taken
taken_kept s t k free some e kept =
    let same : take 64 s.staged ++ drop 64 s.staged ≡ unmarked_facts s = take-append-drop 64 s.staged ∙ ap (λ (r : Option (List Fact)). option_map_or (λ facts. facts) r [] ++ s.staged) (sym free) in
    let there : 1 ≤ length s.staged = there_is s.staged some in
    let before : s.marked_end + 0 + length s.staged < 2 ^ 64 = subst (λ (r : Option (List Fact)). s.marked_end + option_map_or length r 0 + length s.staged < 2 ^ 64) free kept.room in
    let front : length (take 64 s.staged) ≡ min 64 (length s.staged) = length-take 64 s.staged in
    let back : length (drop 64 s.staged) ≡ length s.staged - 64 = length-drop 64 s.staged in
    rw e record {
      lawful = lawful_moved s (Some (take 64 s.staged)) (drop 64 s.staged) same (omega arith, omega arith) kept.lawful;
      room = omega arith;
      kept = kept.kept;
    }
  where
    there_is : (fs : List Fact) → fs ≢ [] → 1 ≤ length fs
    there_is [] h = absurd (h refl)
    there_is (f ∷ fs) h = omega arith

pub taken_any : (s t : NodeState) (k : Kept) (r : Result (Option Grouped) Refusal) → IfOk r (λ g. g ≡ None → (t ≡ s) × (s.staged ≡ [])) → IfOk r (λ g. IsSome g → (t ≡ group_taken s) × (g ≡ running_group t)) → IfOk r (λ g. IsSome g → s.staged ≢ []) → OnOk r (s.running ≡ None) → OnErr r (t ≡ s) → IsKept s k → IsKept t k
taken_any s t k (Ok None) none some there free err kept = rw (none refl).0 kept
taken_any s t k (Ok (Some g)) none some there free err kept = taken_kept s t k free (there refl) (some refl).0 kept
taken_any s t k (Err e) none some there free err kept = rw err kept

-- how many facts run
running_count : (running : Option (List Fact)) → length (option_map_or (λ (facts : List Fact). facts) running []) ≡ option_map_or length running 0
running_count None = refl
running_count (Some facts) = refl

pub put_back_kept : (s t : NodeState) (k : Kept) → t ≡ group_put_back s → IsKept s k → IsKept t k
unfolding group_put_back
put_back_kept s t k e kept =
    let count : length (unmarked_facts s) ≡ option_map_or length s.running 0 + length s.staged = length-append (option_map_or (λ facts. facts) s.running []) s.staged ∙ ap (λ (n : ℕ). n + length s.staged) (running_count s.running) in
    let before : s.marked_end + option_map_or length s.running 0 + length s.staged < 2 ^ 64 = kept.room in
    rw e record {
      lawful = lawful_moved s None (unmarked_facts s) refl tt kept.lawful;
      room = omega arith;
      kept = kept.kept;
    }

-- each of facts that fit is of the present round, if it is an Adopt
all_in_round : (n p : ℕ) (es : List Entry) (fs : List Fact) → all_fit n p es fs ≡ true → AllInRound es fs
all_in_round n p es [] h = tt
all_in_round n p es (f ∷ fs) h = (fits_in_round n p (standing_in es (instance_of f)) f (and_left _ _ h), all_in_round n p (take_on es f) fs (and_right _ _ h))

-- a fact that fits finds its instance undecided
undecided_where_fits : (n p : ℕ) (st : Option Standing) (f : Fact) → fits n p st f ≡ true → is_undecided st ≡ true
undecided_where_fits n p st (Enter i e) h = and_left _ _ (and_left _ _ h)
undecided_where_fits n p st (Propose i r v) h = and_left _ _ (and_left _ _ (and_left _ _ h))
undecided_where_fits n p st (Adopt i r v) h = and_left _ _ (and_left _ _ h)
undecided_where_fits n p st (Decide i v) h = h

none_decided : (st : Option Standing) (v : Command) → is_undecided st ≡ true → decision_of st ≡ Some v → ⊥
none_decided None v h d = none-some v d
none_decided (Some (Decided w)) v h d = false≢true h
none_decided (Some (Open o)) v h d = none-some v d

-- and leaves the others as they are
decision_stays : (es : List Entry) (f : Fact) (i : ℕ) (v : Command) → is_undecided (standing_in es (instance_of f)) ≡ true → decision_of (standing_in es i) ≡ Some v → decision_of (standing_in (take_on es f) i) ≡ Some v
decision_stays es f i v h d = ap decision_of (standing_in-take_on es f i) ∙ by (instance_of f == i) refl
  where
    by : (b : Bool) → (instance_of f == i) ≡ b → decision_of (cond b (after_fact (standing_in es i) f) (standing_in es i)) ≡ Some v
    by true e = absurd (none_decided (standing_in es i) v (subst (λ (j : ℕ). is_undecided (standing_in es j) ≡ true) (eqb-true _ _ e) h) d)
    by false e = d

all_stay : (n p : ℕ) (es : List Entry) (fs : List Fact) → all_fit n p es fs ≡ true → KeepsPromised es (take_on_all es fs)
all_stay n p es [] h i v d = d
all_stay n p es (f ∷ fs) h i v d = all_stay n p (take_on es f) fs (and_right _ _ h) i v (decision_stays es f i v (undecided_where_fits n p (standing_in es (instance_of f)) f (and_left _ _ h)) d)

-- the running facts fit what is marked
running_fit : (s : NodeState) → IsLawful s → all_fit s.nodes s.node s.marked (option_map_or (λ facts. facts) s.running []) ≡ true
running_fit s h = fit_first s.nodes s.node s.marked (option_map_or (λ facts. facts) s.running []) s.staged h.fits

-- so they can be marked: each Adopt is of the present round, no decision changes, and each instance has its row
pub in_round : (s : NodeState) → IsLawful s → AllInRound s.marked (option_map_or (λ facts. facts) s.running [])
in_round s h = all_in_round s.nodes s.node s.marked (option_map_or (λ facts. facts) s.running []) (running_fit s h)

pub decisions_stay : (s : NodeState) → IsLawful s → KeepsPromised s.marked (take_on_all s.marked (option_map_or (λ facts. facts) s.running []))
decisions_stay s h = all_stay s.nodes s.node s.marked (option_map_or (λ facts. facts) s.running []) (running_fit s h)

pub have_rows : (s : NodeState) → IsLawful s → HaveRows (take_on_all s.marked (option_map_or (λ facts. facts) s.running [])) s.rows
have_rows s h i none =
    let running : List Fact = option_map_or (λ facts. facts) s.running [] in
    none_before (take_on_all s.marked running) s.staged i
    (ap (λ (es : List Entry). standing_in es i) (take_both s.marked running s.staged) ∙ sym (h.stands i) ∙ ap (λ (o : Option Row). option_map (λ r. r.standing) o) none)

abbrev grouped : ℕ → List Fact → Grouped
grouped n facts = record { serial = n; facts = facts }

some_runs : (n : ℕ) (g : Grouped) (r : Option (List Fact)) → option_map (grouped n) r ≡ Some g → IsSome r
some_runs n g None e = absurd (cc)
some_runs n g (Some facts) e = refl

pub runs : (s : NodeState) (g : Grouped) → running_group s ≡ Some g → IsSome s.running
runs s g e = some_runs s.marked_end g s.running e

pub runs_if : (b : Bool) (s : NodeState) (g : Grouped) → (IsTrue b ↔ (running_group s ≡ Some g)) → b ≡ true → IsSome s.running
runs_if true s g h e = let t : IsTrue true = search rules in runs s g (h.0 t)
runs_if false s g h e = absurd (false≢true e)

-- the facts of the running group fit the marked ones
group_fit : (s : NodeState) (g : Grouped) → IsLawful s → running_group s ≡ Some g → all_fit s.nodes s.node s.marked g.facts ≡ true
group_fit s g h e = by s.running refl
  where
    by : (o : Option (List Fact)) → s.running ≡ o → all_fit s.nodes s.node s.marked g.facts ≡ true
    by None f = absurd (let none : option_map (grouped s.marked_end) None ≡ Some g = ap (λ (o : Option (List Fact)). option_map (grouped s.marked_end) o) (sym f) ∙ e in cc)
    by (Some facts) f =
        let own : option_map (grouped s.marked_end) (Some facts) ≡ Some g = ap (λ (o : Option (List Fact)). option_map (grouped s.marked_end) o) (sym f) ∙ e in
        let same : grouped s.marked_end facts ≡ g = cc in
        let fit : all_fit s.nodes s.node s.marked facts ≡ true = subst (λ (o : Option (List Fact)). all_fit s.nodes s.node s.marked (option_map_or (λ facts. facts) o []) ≡ true) f (running_fit s h) in
        subst (λ (x : Grouped). all_fit s.nodes s.node s.marked x.facts ≡ true) same fit

pub fit_if : (b : Bool) (s t : NodeState) (k : Kept) (g : Grouped) → s ≡ t → IsKept s k → (IsTrue b ↔ (running_group s ≡ Some g)) → b ≡ true → all_fit t.nodes t.node t.marked g.facts ≡ true
fit_if true s t k g e kept h x = let own : IsTrue true = search rules in subst (λ (u : NodeState). all_fit u.nodes u.node u.marked g.facts ≡ true) e (group_fit s g kept.lawful (h.0 own))
fit_if false s t k g e kept h x = absurd (false≢true x)

-- a marked group
marked_some : (s : NodeState) (k : Kept) (facts : List Fact) → s.running ≡ Some facts → IsKept s k → (j : Kept) → j ≡ kept_of (decided_from 0 (take_on_all s.marked facts)) → IsKept (record s { running = None; marked = take_on_all s.marked facts; marked_end = s.marked_end + length facts }) j
marked_some s k facts e kept j r =
    let fit : all_fit s.nodes s.node s.marked (facts ++ s.staged) ≡ true = subst (λ (o : Option (List Fact)). all_fit s.nodes s.node s.marked (option_map_or (λ facts. facts) o [] ++ s.staged) ≡ true) e kept.lawful.fits in
    let stands : (i : ℕ) → standing_at s i ≡ standing_in (take_on_all s.marked (facts ++ s.staged)) i = subst (λ (o : Option (List Fact)). (i : ℕ) → standing_at s i ≡ standing_in (take_on_all s.marked (option_map_or (λ facts. facts) o [] ++ s.staged)) i) e kept.lawful.stands in
    let before : s.marked_end + length facts + length s.staged < 2 ^ 64 = subst (λ (o : Option (List Fact)). s.marked_end + option_map_or length o 0 + length s.staged < 2 ^ 64) e kept.room in
    record {
      lawful = record {
        ascends = record { ascends = ascend_all s.marked facts kept.lawful.ascends.ascends };
        fits = fit_later s.nodes s.node s.marked facts s.staged fit;
        stands = λ i. stands i ∙ ap (λ es. standing_in es i) (sym (take_both s.marked facts s.staged));
        few = tt;
      };
      room = omega arith;
      kept = r;
    }

pub marked_kept : (s t : NodeState) (j k : Kept) (more : List Command) → IsKept s j → IsSome s.running → decided_from 0 (take_on_all s.marked (option_map_or (λ facts. facts) s.running [])) ≡ decided_prefix s ++ more → k ≡ kept_of (decided_prefix s ++ more) → t ≡ marked_running s → IsKept t k
unfolding marked_running
marked_kept s t j k more kept runs e r g = by s.running refl
  where
    by : (o : Option (List Fact)) → s.running ≡ o → IsKept t k
    by None f = absurd (false≢true (ap is_some (sym f) ∙ runs))
    by (Some facts) f =
        let after : decided_from 0 (take_on_all s.marked facts) ≡ decided_prefix s ++ more = ap (λ (o : Option (List Fact)). decided_from 0 (take_on_all s.marked (option_map_or (λ facts. facts) o []))) (sym f) ∙ e in
        let make : List Fact → NodeState = (λ facts. record s { running = None; marked = take_on_all s.marked facts; marked_end = s.marked_end + length facts }) in
        let is : t ≡ make facts = g ∙ ap (λ (o : Option (List Fact)). option_map_or make o s) f in
        rw is (marked_some s j facts f kept k (r ∙ ap kept_of (sym after)))

pub left_kept : (s : NodeState) (k : Kept) → IsKept s k → IsKept (message_left s) k
left_kept s k kept = record {
  lawful = record { ascends = kept.lawful.ascends; fits = kept.lawful.fits; stands = kept.lawful.stands; few = kept.lawful.few };
  room = kept.room;
  kept = kept.kept;
}

-- a list has a reply for the requests that it holds
reply_after_has : (m : Bindings) (cs : List Command) (q : RequestNo) → is_some (reply_after m cs q) ≡ has_request cs q
reply_after_has m [] q = refl
reply_after_has m (c ∷ cs) q = by (is_same_request c.request q) (reply_after_has (apply m c).0 cs q)
  where
    by : (b : Bool) → is_some (reply_after (apply m c).0 cs q) ≡ has_request cs q → is_some (cond b (Some (apply m c).1) (reply_after (apply m c).0 cs q)) ≡ cond b true (has_request cs q)
    by true h = refl
    by false h = h

firsts_have : (seen cs : List Command) (q : RequestNo) → has_request seen q ≡ false → has_request (firsts_beside seen cs) q ≡ has_request cs q
firsts_have seen [] q h = refl
firsts_have seen (c ∷ cs) q h = by (firsts_have seen cs q h) (λ m. firsts_have (c ∷ seen) cs q m) (has_request seen c.request) (is_same_request c.request q) refl refl
  where
    by : has_request (firsts_beside seen cs) q ≡ has_request cs q → (has_request (c ∷ seen) q ≡ false → has_request (firsts_beside (c ∷ seen) cs) q ≡ has_request cs q) → (a b : Bool) → has_request seen c.request ≡ a → is_same_request c.request q ≡ b → has_request (firsts_beside seen (c ∷ cs)) q ≡ has_request (c ∷ cs) q
    by old new true true x y = absurd (false≢true (sym h ∙ ap (has_request seen) (sym (request_is _ _ y)) ∙ x))
    by old new true false x y = rw (x, y) old
    by old new false true x y = rw (x, y) refl
    by old new false false x y = rw (x, y) (new (rw y h))

reply_has : (cs : List Command) (q : RequestNo) → is_some (reply_of cs q) ≡ has_request cs q
reply_has cs q = reply_after_has [] (firsts cs) q ∙ firsts_have [] cs q refl

pub replied : (s : NodeState) (k : Kept) (q : RequestNo) → IsKept s k → kept_reply k q ≡ reply_of (decided_prefix s) q
replied s k q kept = ap (λ (j : Kept). kept_reply j q) kept.kept ∙ reply-kept_of (decided_prefix s) q

pub replied_where : (s : NodeState) (k : Kept) → IsKept s k → (q : RequestNo) → is_some (kept_reply k q) ≡ has_request (decided_prefix s) q
replied_where s k kept q = ap is_some (replied s k q kept) ∙ reply_has (decided_prefix s) q

pub answered : (s : NodeState) (k : Kept) → IsKept s k → find (λ q. is_some (kept_reply k q)) s.waiting ≡ next_acknowledged s
answered s k kept = find_same (λ q. is_some (kept_reply k q)) (λ q. has_request (decided_prefix s) q) s.waiting (replied_where s k kept)

pub unanswered : (s : NodeState) (k : Kept) → IsKept s k → record s { waiting = without_first (λ q. is_some (kept_reply k q)) s.waiting } ≡ acknowledged s
unanswered s k kept = ap (λ (qs : List RequestNo). record s { waiting = qs }) (without_held (decided_prefix s) (λ q. is_some (kept_reply k q)) s.waiting (replied_where s k kept))

pub bindings_are : (s : NodeState) (k : Kept) → IsKept s k → k.bindings ≡ registry_of (decided_prefix s)
bindings_are s k kept = ap (λ (j : Kept). j.bindings) kept.kept ∙ bindings-kept_of (decided_prefix s)

pub acknowledged_kept : (s : NodeState) (k : Kept) → IsKept s k → IsKept (acknowledged s) k
acknowledged_kept s k kept = record {
  lawful = record { ascends = kept.lawful.ascends; fits = kept.lawful.fits; stands = kept.lawful.stands; few = kept.lawful.few };
  room = kept.room;
  kept = kept.kept;
}

-- what the oldest acknowledgement leaves
abbrev pub IsAcked : NodeState → NodeState → Kept → Option (RequestNo × Reply) → Type 0
IsAcked s t k r = MatchOption r ((find (λ q. is_some (kept_reply k q)) s.waiting ≡ None) × (t ≡ s)) (λ a. (find (λ q. is_some (kept_reply k q)) s.waiting ≡ Some a.0) × (kept_reply k a.0 ≡ Some a.1) × (t ≡ record s { waiting = without_first (λ q. is_some (kept_reply k q)) s.waiting }))

pub acked_kept : (s t : NodeState) (k : Kept) (r : Option (RequestNo × Reply)) → IsKept s k → IsAcked s t k r → IsKept t k
acked_kept s t k None kept h = rw h.1 kept
acked_kept s t k (Some a) kept h = rw (h.2 ∙ unanswered s k kept) (acknowledged_kept s k kept)

pub acked : (s t u : NodeState) (k : Kept) (r : Option (RequestNo × Reply)) → s ≡ u → IsKept s k → IsAcked s t k r → MatchOption r ((next_acknowledged u ≡ None) × (t ≡ u)) (λ a. (next_acknowledged u ≡ Some a.0) × (reply_of (decided_prefix u) a.0 ≡ Some a.1) × (t ≡ acknowledged u))
acked s t u k None e kept h = rw (sym e) (sym (answered s k kept) ∙ h.0, h.1)
acked s t u k (Some a) e kept h = rw (sym e) (sym (answered s k kept) ∙ h.0, sym (replied s k a.0 kept) ∙ h.1, h.2 ∙ unanswered s k kept)

-- the front of a list with its next element
pub take_next : {X : Type 0} (xs : List X) (i : ℕ) (x : X) → Some x ≡ slice_get xs i → take (i + 1) xs ≡ take i xs ++ x ∷ []
take_next xs i x h = take_more xs i x (slice_get_within xs i x (sym h)) ∙ ap (λ (y : _). take i xs ++ y ∷ []) (get_or_from_slice_get xs i x x (sym h))
