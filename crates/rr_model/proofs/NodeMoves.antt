-- What a node does for its lowest undecided instance where nobody is suspected: it enters a round, proposes, adopts, decides.
use Rattle.std.proofs.Common.{◌≡◌, ℕ, ◌+◌, ◌≤◌, ◌<◌, inl, inr, zero, suc, Bool, true, false, ◌==◌, ◌&&◌, ◌||◌, nat_lt, nat_le, find, filter, if◌then◌else◌, List, [], ◌∷◌, ◌++◌, length, map, Contains, Option, None, Some, option_map, refl, ap, sym, ◌∙◌, subst, arith, eq-eqb, ltb-true, le_refl}
use Rattle.std.specs.Option.{option_map_or}
use Rattle.std.specs.List.{list_any, range_with_len}
use Rattle.std.proofs.lemmas.Bool.{cases_lt, lt-ltb, leb-true}
use Rattle.std.proofs.lemmas.Option.{none-some}
use Rattle.std.proofs.lemmas.List.Elements.{Contains-append_right}
use Rattle.rr_types.specs.declared.command.Command.{Command}
use Rattle.rr_types.specs.declared.fact.Fact.TheVariants.{Enter, Propose}
use Rattle.rr_types.specs.declared.message.Body.{Body}
use Rattle.rr_types.specs.declared.message.Body.TheVariants as say
use Rattle.rr_types.specs.declared.message.Message.{Message}
use Rattle.rr_types.specs.declared.promise.Standing.{Standing}
use Rattle.rr_types.specs.declared.promise.Standing.TheVariants.{Open}
use Rattle.rr_types.specs.Rounds.{Estimated, OpenAt, coordinator_of, majority_of}
use Rattle.rr_types.specs.Nodes.{has_member, joined}
use Rattle.rr_types.specs.Standings.{is_undecided, round_of}
use Rattle.rr_model.specs.NodeState.{NodeState, Row, Tally, no_votes, row_of, put_row, standing_at, undecided_from, lowest_undecided, open_instances, is_open, next_number, everyone, size_of}
use Rattle.rr_model.specs.NodeParts.{owe, messages_to, stage, pool_add, leave_round, enter_with, entering_estimate, enter, propose}
use Rattle.rr_model.specs.NodeDue.{Due, Offer, MoveOn, pick, is_majority, due_of_coordinator, due_of_participant, due_of_row, first_due, due, carry_out, settle}
use Rattle.rr_types.specs.declared.input.Input.TheVariants.{Hear, Advance}
use Rattle.rr_model.specs.NodeStep.{lowest_in_round, advanced, with_vote, change_tally, count_estimate, catch_up, take_estimate, heard_body, taken_in, node_step}
use Rattle.rr_model.proofs.NodeBits.{no_member_of_none}
use Rattle.rr_model.proofs.NodeEnds.{settles_on}
use Rattle.rr_model.proofs.NodeFirsts.{row_for, First, first_row, first_put, first_undecided_is, Onward, onward_not, onward_on, owe_rows, stage_number, stage_onward, leave_onward, leave_rows, either, stage_owe_onward, stage_here, row_due_at, settle_onward, settle_still}

pub if_true : {A : Type 0} (b : Bool) (x y : A) → b ≡ true → (if b then x else y) ≡ x
if_true b x y e = ap (λ z. if z then x else y) e

pub if_false : {A : Type 0} (b : Bool) (x y : A) → b ≡ false → (if b then x else y) ≡ y
if_false b x y e = ap (λ z. if z then x else y) e

pub no_le : (a b : ℕ) → b < a → nat_le a b ≡ false
no_le a b l = by (nat_le a b) refl
  where
    by : (t : Bool) → nat_le a b ≡ t → t ≡ false
    by true e = let x : a ≤ b = leb-true a b e in absurd (omega arith)
    by false e = refl

pub no_lt : (a b : ℕ) → b ≤ a → nat_lt a b ≡ false
no_lt a b l = by (nat_lt a b) refl
  where
    by : (t : Bool) → nat_lt a b ≡ t → t ≡ false
    by true e = let x : a < b = ltb-true a b e in absurd (omega arith)
    by false e = refl

-- the number is below the bound, if there is one
abbrev pub IsBelow : ℕ → Option ℕ → Type 0
IsBelow bound None = Unit {0}
IsBelow bound (Some k) = k < bound

below_more : (a b : ℕ) (k : Option ℕ) → a ≤ b → IsBelow a k → IsBelow b k
below_more a b None l x = tt
below_more a b (Some k) l x = omega arith

-- the node owes the message, backed by a fact that it has
pub record Owes (s : NodeState) (m : Message) : Type 0 where
  pub backing : Option ℕ
  pub below : IsBelow (next_number s) backing
  pub owed : Contains s.owed (record { message = m; backing = backing })

pub owes_on : (s t : NodeState) (m : Message) → Onward s t → Owes s m → Owes t m
owes_on s t m a o = record { backing = o.backing; below = below_more (next_number s) (next_number t) o.backing a.number o.below; owed = a.owed _ o.owed }

-- what is mapped is there
mapped : {A B : Type 0} → (f : A → B) (xs : List A) (x : A) → Contains xs x → Contains (map f xs) (f x)
mapped f [] x c = let l : c.0 < 0 = c.1 in absurd (omega arith)
mapped f (y ∷ ys) x (zero, l, e) = (0, omega arith, ap f e)
mapped f (y ∷ ys) x (suc k, l, e) = let r : Contains (map f ys) (f x) = mapped f ys x (k, (omega arith), e) in (suc r.0, (let m : r.0 < length (map f ys) = r.1 in omega arith), r.2)

-- the node owes what it has just come to owe
pub owes_new : (b : Body) (k : ℕ) (to : List ℕ) (s : NodeState) (q : ℕ) → Contains to q → k < next_number s → Owes (owe b (Some k) to s) (record { from = s.node; to = q; body = b })
unfolding owe
owes_new b k to s q c l = record { backing = Some k; below = l; owed = Contains-append_right s.owed (messages_to s.node b (Some k) to) _ (mapped (λ (z : ℕ). record { message = record { from = s.node; to = z; body = b }; backing = Some k }) to q c) }

-- node p of n suspects nobody, and stands so at i, below which all is decided
pub record Sits (i p n : ℕ) (st : Standing) (t : Tally) (s : NodeState) : Type 0 where
  pub row : First i st t s.rows
  pub nodes : s.nodes ≡ n
  pub node : s.node ≡ p
  pub trusts : s.suspects ≡ 0

pub sits_on : (i p n : ℕ) (st : Standing) (t : Tally) (s u : NodeState) (st2 : Standing) (t2 : Tally) → Sits i p n st t s → Onward s u → First i st2 t2 u.rows → Sits i p n st2 t2 u
sits_on i p n st t s u st2 t2 S a F = record { row = F; nodes = a.nodes ∙ S.nodes; node = a.node ∙ S.node; trusts = a.suspects ∙ S.trusts }

pub standing_first : (i : ℕ) (st : Standing) (t : Tally) (s : NodeState) → First i st t s.rows → standing_at s i ≡ Some st
standing_first i st t s F = ap (option_map (λ (r : Row). r.standing)) (first_row i st t s.rows F)

pub open_first : (i : ℕ) (o : OpenAt) (t : Tally) (s : NodeState) → First i (Open o) t s.rows → i < 1048576 → (rest : List ℕ) × (open_instances s ≡ i ∷ rest)
unfolding open_instances
open_first i o t s F l =
    let e : undecided_from 0 s.rows ≡ i = first_undecided_is i (Open o) t s.rows F refl in
    (lowest_undecided 7 (i + 1) s.rows, ap (λ z. if nat_lt z 1048576 then z ∷ lowest_undecided 7 (z + 1) s.rows else []) e ∙ if_true _ _ _ (lt-ltb i 1048576 l))

pub is_open_first : (i : ℕ) (o : OpenAt) (t : Tally) (s : NodeState) → First i (Open o) t s.rows → i < 1048576 → is_open s i ≡ true
is_open_first i o t s F l = let x : (rest : List ℕ) × (open_instances s ≡ i ∷ rest) = open_first i o t s F l in ap (list_any (λ j. j == i)) x.1 ∙ ap (λ b. b || list_any (λ j. j == i) x.0) (eq-eqb i i refl)

-- what is due for i is due
pub due_first : (i : ℕ) (o : OpenAt) (t : Tally) (s : NodeState) (d : Due) → First i (Open o) t s.rows → i < 1048576 → due_of_row s i t (Open o) ≡ Some d → due s ≡ Some d
unfolding due
due_first i o t s d F l e =
    let x : (rest : List ℕ) × (open_instances s ≡ i ∷ rest) = open_first i o t s F l in
    ap (first_due s) x.1 ∙ ap (λ z. option_map_or Some z (first_due s x.0)) (row_due_at i (Open o) t s F ∙ e)

filter_none : (f : ℕ → Bool) (xs : List ℕ) → ((q : ℕ) → f q ≡ false) → filter f xs ≡ []
filter_none f [] none = refl
filter_none f (x ∷ xs) none = if_false (f x) (x ∷ filter f xs) (filter f xs) (none x) ∙ filter_none f xs none

pub not_member : (q : ℕ) → has_member 0 q ≡ false
not_member q = by (has_member 0 q) refl
  where
    by : (b : Bool) → has_member 0 q ≡ b → b ≡ false
    by true e = absurd (no_member_of_none q e)
    by false e = refl

-- nobody is no majority
pub nobody : (s : NodeState) → is_majority s 0 ≡ false
nobody s = no_le (majority_of s.nodes) (size_of s 0) (let z : size_of s 0 ≡ 0 = ap length (filter_none (λ q. has_member 0 q) (everyone s) not_member) in omega arith)

pub joined_nobody : (a : ℕ) → joined a 0 ≡ a
unfolding joined
joined_nobody a = refl

-- nothing is due: a coordinator without a proposal lacks estimates, one with a proposal acknowledgements
pub quiet : (i p n : ℕ) (o : OpenAt) (t : Tally) (s : NodeState) → Sits i p n (Open o) t s → is_majority s t.acks ≡ false → t.nacks ≡ 0 → (o.proposal ≡ None → pick n t ≡ None) → due_of_row s i t (Open o) ≡ None
quiet i p n o t s S few none lacks = by (coordinator_of o.round s.nodes == s.node) o.proposal refl
  where
    coordinates : (v : Option Command) → o.proposal ≡ v → due_of_coordinator s i t o.round v ≡ None
    coordinates None e = ap (option_map (λ v. Offer i o.round v)) (ap (λ z. pick z t) S.nodes ∙ lacks e)
    coordinates (Some v) e =
        if_false (is_majority s t.acks) _ _ few
        ∙ ap (λ z. if is_majority s z && nat_lt o.round 2147483647 then Some (MoveOn i) else None) (ap (joined t.acks) none ∙ joined_nobody t.acks)
        ∙ ap (λ z. if z && nat_lt o.round 2147483647 then Some (MoveOn i) else None) few

    by : (b : Bool) (v : Option Command) → o.proposal ≡ v → (if b then due_of_coordinator s i t o.round o.proposal else due_of_participant s i o.round) ≡ None
    by true v e = ap (due_of_coordinator s i t o.round) e ∙ coordinates v e
    by false v e = ap (λ z. if z && nat_lt o.round 2147483647 then Some (MoveOn i) else None) (ap (λ z. has_member z (coordinator_of o.round s.nodes)) S.trusts ∙ not_member (coordinator_of o.round s.nodes))

pub no_pick : (n : ℕ) → pick n no_votes ≡ None
no_pick n = if_false (nat_le (majority_of n) 0) _ _ (no_le (majority_of n) 0 (omega arith))

-- where no votes were heard nothing is due
pub quiet_new : (i p n : ℕ) (o : OpenAt) (s : NodeState) → Sits i p n (Open o) no_votes s → due_of_row s i no_votes (Open o) ≡ None
quiet_new i p n o s S = quiet i p n o no_votes s S (nobody s) refl (λ e. no_pick n)

-- a node that sits so sits so still once it has settled, where nothing is due for i
pub settles : (i p n : ℕ) (st : Standing) (t : Tally) (s : NodeState) → Sits i p n st t s → due_of_row s i t st ≡ None → Sits i p n st t (settle s)
settles i p n st t s S q = sits_on i p n st t s (settle s) st t S (settle_onward s) (settle_still i st t s S.row q)

-- node p of n tells q
abbrev pub from_to : ℕ → ℕ → Body → Message
from_to p q b = record { from = p; to = q; body = b }

-- after it has entered round r with its estimate
abbrev pub entered : ℕ → OpenAt → OpenAt
entered r o = record { round = r; stamp = o.stamp; estimate = o.estimate; proposal = None }

-- the estimate with which it enters
abbrev pub estimated : ℕ → OpenAt → Estimated
estimated r o = record { round = r; stamp = o.stamp; command = o.estimate }

pub enters_with : (i p n r : ℕ) (e : Estimated) (st : Standing) (t : Tally) (s : NodeState) → Sits i p n st t s → Sits i p n (Open (record { round = e.round; stamp = e.stamp; estimate = e.command; proposal = None })) no_votes (enter_with i e (leave_round i s)) × Onward s (enter_with i e (leave_round i s)) × Owes (enter_with i e (leave_round i s)) (from_to p (coordinator_of e.round n) (say.Estimate i e))
enters_with i p n r e st t s S =
    let u : NodeState = leave_round i s in
    let away : Onward s u = leave_onward i s in
    let v : NodeState = stage (Enter i e) u in
    let on : Onward s (enter_with i e u) = onward_on s u _ away (stage_owe_onward (Enter i e) _ _ _ u) in
    let F : First i st t u.rows = subst (First i st t) (sym (leave_rows i s)) S.row in
    let G : First i (Open (record { round = e.round; stamp = e.stamp; estimate = e.command; proposal = None })) no_votes v.rows = stage_here st t (Enter i e) u _ F refl in (
      sits_on i p n st t s _ _ _ S on (subst (First i _ no_votes) (sym (owe_rows _ _ _ v)) G),
      on,
      subst (λ z. Owes (enter_with i e u) (from_to z (coordinator_of e.round n) (say.Estimate i e))) ((stage_onward (Enter i e) u).node ∙ away.node ∙ S.node)
          (subst (λ z. Owes (enter_with i e u) (from_to v.node (coordinator_of e.round z) (say.Estimate i e))) (away.nodes ∙ S.nodes)
          (owes_new (say.Estimate i e) (next_number u) (coordinator_of e.round u.nodes ∷ []) v (coordinator_of e.round u.nodes) (0, omega arith, refl) (let x : next_number v ≡ next_number u + 1 = stage_number (Enter i e) u in omega arith))),
    )

-- a node that advances enters the next round, and owes its estimate to that round's coordinator
pub record Advanced (i p n : ℕ) (o : OpenAt) (s u : NodeState) : Type 0 where
  pub sits : Sits i p n (Open (entered (o.round + 1) o)) no_votes u
  pub onward : Onward s u
  pub owes : Owes u (from_to p (coordinator_of (o.round + 1) n) (say.Estimate i (estimated (o.round + 1) o)))

pub lowest_first : (i p n : ℕ) (o : OpenAt) (t : Tally) (s : NodeState) → Sits i p n (Open o) t s → i < 1048576 → 0 < o.round → lowest_in_round s ≡ Some i
lowest_first i p n o t s S l r =
    let x : (rest : List ℕ) × (open_instances s ≡ i ∷ rest) = open_first i o t s S.row l in
    ap (find (λ j. nat_lt 0 (round_of (standing_at s j)))) x.1
    ∙ if_true (nat_lt 0 (round_of (standing_at s i))) (Some i) _ (ap (λ z. nat_lt 0 (round_of z)) (standing_first i (Open o) t s S.row) ∙ lt-ltb 0 o.round r)

pub advances_to : (i p n : ℕ) (o : OpenAt) (t : Tally) (s : NodeState) → Sits i p n (Open o) t s → i < 1048576 → 0 < o.round → taken_in Advance s ≡ enter_with i (estimated (o.round + 1) o) (leave_round i s)
unfolding taken_in advanced enter
advances_to i p n o t s S l r =
    let at : standing_at s i ≡ Some (Open o) = standing_first i (Open o) t s S.row in
    let own : entering_estimate i (round_of (standing_at s i) + 1) None s ≡ Some (estimated (o.round + 1) o) = rw (at, at) refl in
    ap (λ z. option_map_or (λ j. enter j (round_of (standing_at s j) + 1) None s) z s) (lowest_first i p n o t s S l r)
    ∙ ap (λ z. option_map_or (λ e. enter_with i e (leave_round i s)) z s) own

pub advance : (i p n : ℕ) (o : OpenAt) (t : Tally) (s : NodeState) → Sits i p n (Open o) t s → i < 1048576 → 0 < o.round → Advanced i p n o s (node_step Advance s)
unfolding node_step
advance i p n o t s S l r =
    let u : NodeState = enter_with i (estimated (o.round + 1) o) (leave_round i s) in
    let x : Sits i p n (Open (entered (o.round + 1) o)) no_votes u × Onward s u × Owes u (from_to p (coordinator_of (o.round + 1) n) (say.Estimate i (estimated (o.round + 1) o))) = enters_with i p n (o.round + 1) (estimated (o.round + 1) o) (Open o) t s S in
    subst (λ z. Advanced i p n o s (settle z)) (sym (advances_to i p n o t s S l r)) (record {
      sits = settles i p n _ no_votes u x.0 (quiet_new i p n _ u x.0);
      onward = onward_on s u (settle u) x.1 (settle_onward u);
      owes = owes_on u (settle u) _ (settle_onward u) x.2;
    })

pub pool_onward : (c : Command) (s : NodeState) → Onward s (pool_add c s)
unfolding pool_add
pool_onward c s = either (Onward s) s (record s { pool = s.pool ++ c ∷ [] }) _ (onward_not s) (record { nodes = refl; node = refl; suspects = refl; waiting = refl; owed = λ o x. x; number = le_refl (next_number s) })

pub pool_rows : (c : Command) (s : NodeState) → (pool_add c s).rows ≡ s.rows
unfolding pool_add
pool_rows c s = either (λ z. z.rows ≡ s.rows) s (record s { pool = s.pool ++ c ∷ [] }) _ refl refl

pub pool_sits : (i p n : ℕ) (st : Standing) (t : Tally) (c : Command) (s : NodeState) → Sits i p n st t s → Sits i p n st t (pool_add c s)
pool_sits i p n st t c s S = sits_on i p n st t s _ st t S (pool_onward c s) (subst (First i st t) (sym (pool_rows c s)) S.row)

-- what is heard for this node is taken in
pub heard_here : (p : ℕ) (b : Body) (q : ℕ) (s : NodeState) → s.node ≡ p → taken_in (Hear (from_to q p b)) s ≡ heard_body q b s
unfolding taken_in
heard_here p b q s e = if_true _ _ _ (eq-eqb p s.node (sym e))

-- a changed tally
pub change_sits : (i p n : ℕ) (st : Standing) (t : Tally) (s : NodeState) (change : Tally → Tally) → Sits i p n st t s → Sits i p n st (change t) (change_tally i change s) × Onward s (change_tally i change s)
change_sits i p n st t s change S =
    let e : row_of s.rows i ≡ Some (row_for i st (S.row).backing t) = first_row i st t s.rows S.row in
    let u : NodeState = record s { rows = put_row (row_for i st (S.row).backing (change t)) s.rows } in
    let on : Onward s u = record { nodes = refl; node = refl; suspects = refl; waiting = refl; owed = λ o x. x; number = le_refl (next_number s) } in
    subst (λ z. Sits i p n st (change t) z × Onward s z) (sym (ap (λ z. option_map_or (λ (row : Row). record s { rows = put_row (record row { tally = change row.tally }) s.rows }) z s) e))
    (sits_on i p n st t s u st (change t) S on (first_put i st t s.rows S.row st (S.row).backing (change t)), on)

-- the tally with an estimate of q
abbrev pub voted : ℕ → Estimated → Tally → Tally
voted q e t = record t { estimates = with_vote (record { sender = q; stamp = e.stamp; command = e.command }) t.estimates }

pub count_sits : (i p n q : ℕ) (e : Estimated) (st : Standing) (t : Tally) (s : NodeState) → Sits i p n st t s → Sits i p n st (voted q e t) (count_estimate i q e s) × Onward s (count_estimate i q e s)
unfolding count_estimate
count_sits i p n q e st t s S = change_sits i p n st t s (voted q e) S

pub estimate_taken : (i p n q : ℕ) (e : Estimated) (o : OpenAt) (t : Tally) (s : NodeState) → Sits i p n (Open o) t s → i < 1048576 → o.round ≡ e.round → coordinator_of e.round n ≡ p → taken_in (Hear (from_to q p (say.Estimate i e))) s ≡ count_estimate i q e (pool_add e.command s)
unfolding heard_body
estimate_taken i p n q e o t s S l r c =
    let at : standing_at s i ≡ Some (Open o) = standing_first i (Open o) t s S.row in
    let u : NodeState = pool_add e.command s in
    let there : standing_at u i ≡ Some (Open o) = standing_first i (Open o) t u (pool_sits i p n (Open o) t e.command s S).row in
    let stay : catch_up i e.round e.command u ≡ u = if_false _ _ _ (ap (λ z. nat_lt (round_of z) e.round) there ∙ no_lt o.round e.round (omega arith)) in
    heard_here p (say.Estimate i e) q s S.node
    ∙ if_true _ _ _ (ap is_undecided at)
    ∙ if_true _ _ _ (is_open_first i o t s S.row l)
    ∙ if_true _ _ _ (eq-eqb _ s.node (ap (coordinator_of e.round) S.nodes ∙ c ∙ sym S.node))
    ∙ ap (take_estimate i q e) stay
    ∙ if_true _ _ _ (ap (λ z. round_of z == e.round) there ∙ eq-eqb o.round e.round r)

pub in_range : (a k q : ℕ) → a ≤ q → q < a + k → Contains (range_with_len a k) q
in_range a zero q l m = absurd (omega arith)
in_range a (suc k) q l m = elim (cases_lt a q) [
  | inl x ↦ (let r : Contains (range_with_len (a + 1) k) q = in_range (a + 1) k q (omega arith) (omega arith) in (suc r.0, (let y : r.0 < length (range_with_len (a + 1) k) = r.1 in omega arith), r.2))
  | inr x ↦ (0, omega arith, (let y : a ≡ q = omega arith in y))
]

-- the round with a proposal made in it
abbrev pub proposing : Command → OpenAt → OpenAt
proposing v o = record o { proposal = Some v }

-- a coordinator has proposed, and owes its proposal to every node
pub record Proposed (i p n : ℕ) (o : OpenAt) (t : Tally) (v : Command) (s u : NodeState) : Type 0 where
  pub sits : Sits i p n (Open (proposing v o)) t u
  pub onward : Onward s u
  pub owes : (q : ℕ) → q < n → Owes u (from_to p q (say.Proposal i o.round v))

pub proposes : (i p n r : ℕ) (v : Command) (o : OpenAt) (t : Tally) (s : NodeState) → Sits i p n (Open o) t s → o.round ≡ r → Proposed i p n o t v s (propose i r v s)
unfolding propose
proposes i p n r v o t s S x =
    let u : NodeState = stage (Propose i r v) s in
    let on : Onward s (propose i r v s) = stage_owe_onward (Propose i r v) _ _ _ s in
    record {
      sits = sits_on i p n (Open o) t s _ _ t S on (subst (First i (Open (proposing v o)) t) (sym (owe_rows _ _ _ u)) (stage_here (Open o) t (Propose i r v) s (Open (proposing v o)) S.row refl));
      onward = on;
      owes = λ q l. subst (λ z. Owes (propose i r v s) (from_to p q (say.Proposal i z v))) (sym x)
          (subst (λ z. Owes (propose i r v s) (from_to z q (say.Proposal i r v))) ((stage_onward (Propose i r v) s).node ∙ S.node)
          (owes_new (say.Proposal i r v) (next_number s) (everyone s) u q (subst (λ z. Contains (range_with_len 0 z) q) (sym S.nodes) (in_range 0 n q (omega arith) (omega arith))) (let y : next_number u ≡ next_number s + 1 = stage_number (Propose i r v) s in omega arith)));
    }

pub offered : (j r : ℕ) (z : Command) (m : NodeState) → carry_out (Offer j r z) m ≡ propose j r z m
unfolding carry_out
offered j r z m = refl

-- by what it could pick, it lacks estimates still, or has made its proposal
abbrev pub Tallied : (i p n : ℕ) (o : OpenAt) (t : Tally) (s u : NodeState) → Option Command → Type 0
Tallied i p n o t s u None = Sits i p n (Open o) t u × Onward s u
Tallied i p n o t s u (Some v) = Proposed i p n o t v s u

-- a coordinator that had no proposal has heard one estimate more: it lacks estimates still, or has made its proposal
pub hears_estimate : (i p n q : ℕ) (e : Estimated) (o : OpenAt) (t : Tally) (s : NodeState) → Sits i p n (Open o) t s → i < 1048576 → o.round ≡ e.round → coordinator_of e.round n ≡ p → t.acks ≡ 0 → t.nacks ≡ 0 → o.proposal ≡ None → (k : Option Command) → pick n (voted q e t) ≡ k → Tallied i p n o (voted q e t) s (node_step (Hear (from_to q p (say.Estimate i e))) s) k
unfolding node_step
hears_estimate i p n q e o t s S l r c a b has None k =
    let u : NodeState = pool_add e.command s in
    let v : NodeState = count_estimate i q e u in
    let x : Sits i p n (Open o) (voted q e t) v × Onward u v = count_sits i p n q e (Open o) t u (pool_sits i p n (Open o) t e.command s S) in
    subst (λ z. Sits i p n (Open o) (voted q e t) (settle z) × Onward s (settle z)) (sym (estimate_taken i p n q e o t s S l r c)) (
      settles i p n (Open o) (voted q e t) v x.0 (quiet i p n o (voted q e t) v x.0 (ap (is_majority v) a ∙ nobody v) b (λ none. k)),
      onward_on s u (settle v) (pool_onward e.command s) (onward_on u v (settle v) x.1 (settle_onward v)),
    )
hears_estimate i p n q e o t s S l r c a b has (Some w) k =
    let u : NodeState = pool_add e.command s in
    let v : NodeState = count_estimate i q e u in
    let x : Sits i p n (Open o) (voted q e t) v × Onward u v = count_sits i p n q e (Open o) t u (pool_sits i p n (Open o) t e.command s S) in
    let me : coordinator_of o.round v.nodes ≡ v.node = ap (coordinator_of o.round) x.0.nodes ∙ ap (λ z. coordinator_of z n) r ∙ c ∙ sym x.0.node in
    let offer : due_of_row v i (voted q e t) (Open o) ≡ Some (Offer i o.round w) =
    if_true _ _ _ (eq-eqb _ v.node me) ∙ ap (due_of_coordinator v i (voted q e t) o.round) has ∙ ap (option_map (λ z. Offer i o.round z)) (ap (λ z. pick z (voted q e t)) x.0.nodes ∙ k) in
    let next : settle v ≡ settle (propose i o.round w v) = settles_on v (Offer i o.round w) (due_first i o (voted q e t) v (Offer i o.round w) x.0.row l offer) ∙ ap settle (offered i o.round w v) in
    let y : Proposed i p n o (voted q e t) w v (propose i o.round w v) = proposes i p n o.round w o (voted q e t) v x.0 refl in
    let g : NodeState = propose i o.round w v in
    subst (λ z. Proposed i p n o (voted q e t) w s z) (sym (ap settle (estimate_taken i p n q e o t s S l r c) ∙ next))
    (record {
      sits = settles i p n _ (voted q e t) g y.sits (quiet i p n _ (voted q e t) g y.sits (ap (is_majority g) a ∙ nobody g) b (λ none. absurd (none-some w (sym none))));
      onward = onward_on s u (settle g) (pool_onward e.command s) (onward_on u v (settle g) x.1 (onward_on v g (settle g) y.onward (settle_onward g)));
      owes = λ j m. owes_on g (settle g) _ (settle_onward g) (y.owes j m);
    })
