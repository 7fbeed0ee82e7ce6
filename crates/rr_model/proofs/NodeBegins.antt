-- A client submits a command to a node: it waits, and where the lowest undecided instance has no round the node enters round 1.
use Rattle.std.proofs.Common.{◌≡◌, ℕ, ◌+◌, ◌<◌, false, ◌==◌, ◌&&◌, ◌||◌, not, nat_lt, nat_le, find, is_some, if◌then◌else◌, List, [], ◌∷◌, ◌++◌, Contains, None, Some, option_map, refl, ap, sym, ◌∙◌, subst}
use Rattle.std.specs.Option.{option_map_or}
use Rattle.std.specs.List.{list_any}
use Rattle.std.proofs.lemmas.Bool.{lt-ltb}
use Rattle.std.proofs.lemmas.List.Elements.{Contains-append_left}
use Rattle.rr_types.specs.declared.command.Command.{Command}
use Rattle.rr_types.specs.declared.fact.Fact.TheVariants.{Enter}
use Rattle.rr_types.specs.declared.message.Body.TheVariants.{Request}
use Rattle.rr_types.specs.declared.message.Message.{Message}
use Rattle.rr_types.specs.declared.promise.Standing.TheVariants.{Open}
use Rattle.rr_types.specs.Commands.{is_same_command}
use Rattle.rr_types.specs.Registry.{is_same_request, has_request}
use Rattle.rr_types.specs.Rounds.{Estimated, OpenAt}
use Rattle.rr_types.specs.Standings.{estimate_of}
use Rattle.rr_model.specs.NodeState.{NodeState, Row, Owed, no_votes, row_of, put_row, standing_at, undecided_from, lowest_undecided, open_instances, others, is_decided_request, decided_prefix, next_number}
use Rattle.rr_model.specs.NodeParts.{owe, pool_add, stage, rows_after, is_estimate_beside, free_command, leave_round, enter_with, entering_estimate, enter}
use Rattle.rr_model.specs.NodeDue.{Begin, first_due, due_at, due, carry_out, settle}
use Rattle.rr_types.specs.declared.input.Input.TheVariants.{Submit}
use Rattle.rr_model.specs.NodeStep.{is_waiting, wait_for, submitted, taken_in, node_step, input_refusal}
use Rattle.rr_model.proofs.NodeEnds.{settles_on}
use Rattle.rr_model.proofs.NodeFirsts.{row_for, AreDecidedUpTo, IsBeyond, First, first_undecided_is, undecided_between, put_between, Onward, either, owe_rows, leave_rows, stage_rows, stage_owe_onward, leave_onward, settle_onward, onward_on}
use Rattle.rr_model.proofs.NodeMoves.{if_true, if_false, no_le, IsBelow, Owes, owes_on, Sits, settles, quiet_new, standing_first}
use Rattle.rr_model.proofs.NodeBeyond.{at_first, Loose, restless, loose_keeps, stage_beside, then_settles, SameBeside, SameStandings, IsQuietAbove, AllAre, enter_pool, free_of_one, settles_not}
use Rattle.rr_model.proofs.NodeAlone.{Comes, no_event, and_then, Flushed, takes}
use Rattle.rr_model.proofs.NodePhases.{flushed_sits}

-- the request waits, and rows and suspicions are as they were
pub record Waits (c : Command) (s u : NodeState) : Type 0 where
  pub nodes : u.nodes ≡ s.nodes
  pub node : u.node ≡ s.node
  pub suspects : u.suspects ≡ s.suspects
  pub rows : u.rows ≡ s.rows
  pub waiting : u.waiting ≡ c.request ∷ []
  pub owed : (o : Owed) → Contains s.owed o → Contains u.owed o
  pub number : next_number u ≡ next_number s

waits_now : (c : Command) (s : NodeState) → s.waiting ≡ [] → Waits c s (wait_for c.request s)
unfolding wait_for
waits_now c s e = subst (Waits c s) (sym (if_false (is_waiting s c.request) s (record s { waiting = s.waiting ++ c.request ∷ [] }) (ap (list_any (λ w. is_same_request w c.request)) e)))
    (record { nodes = refl; node = refl; suspects = refl; rows = refl; waiting = ap (λ z. z ++ c.request ∷ []) e; owed = λ o x. x; number = refl })

waits_pooled : (c : Command) (s u : NodeState) → Waits c s u → Waits c s (pool_add c u)
unfolding pool_add
waits_pooled c s u W = either (Waits c s) u (record u { pool = u.pool ++ c ∷ [] }) _ W (record { nodes = W.nodes; node = W.node; suspects = W.suspects; rows = W.rows; waiting = W.waiting; owed = W.owed; number = W.number })

waits_owing : (c : Command) (s u : NodeState) (to : List ℕ) → Waits c s u → Waits c s (owe (Request c) None to u)
unfolding owe
waits_owing c s u to W = record { nodes = W.nodes; node = W.node; suspects = W.suspects; rows = W.rows; waiting = W.waiting; owed = λ o x. Contains-append_left u.owed _ o (W.owed o x); number = W.number }

pub waits_submitted : (c : Command) (s : NodeState) → s.waiting ≡ [] → Waits c s (taken_in (Submit c) s)
unfolding taken_in submitted
waits_submitted c s e = either (Waits c s) _ _ (has_request (decided_prefix s) c.request || is_waiting s c.request) (waits_now c s e) (waits_owing c s _ (others s) (waits_pooled c s _ (waits_now c s e)))

-- a node that has not decided all takes it
not_full : (i : ℕ) (c : Command) (s : NodeState) → undecided_from 0 s.rows ≡ i → i < 1048576 → input_refusal (Submit c) s ≡ None
not_full i c s e l = if_false _ _ _ (ap (λ z. z && not (is_decided_request s c.request) && not (is_waiting s c.request)) (ap (λ z. nat_le 1048576 z) e ∙ no_le 1048576 i l))

-- the lowest undecided instance is open, and the request waits
pub record OpenAndWaiting (i p n : ℕ) (c : Command) (o : OpenAt) (t : NodeState) : Type 0 where
  pub sits : Sits i p n (Open o) no_votes t
  pub waiting : t.waiting ≡ c.request ∷ []

open_waiting : (i p n : ℕ) (c : Command) (o : OpenAt) (s u : NodeState) → Sits i p n (Open o) no_votes s → Waits c s u → OpenAndWaiting i p n c o (settle u)
open_waiting i p n c o s u S W =
    let U : Sits i p n (Open o) no_votes u = record { row = subst (First i (Open o) no_votes) (sym W.rows) S.row; nodes = W.nodes ∙ S.nodes; node = W.node ∙ S.node; trusts = W.suspects ∙ S.trusts } in
    record { sits = settles i p n (Open o) no_votes u U (quiet_new i p n o u U); waiting = (settle_onward u).waiting ∙ W.waiting }

flushed_open : (i p n : ℕ) (c : Command) (o : OpenAt) (s u : NodeState) (w : List Message) → OpenAndWaiting i p n c o s → Flushed s u w → OpenAndWaiting i p n c o u
flushed_open i p n c o s u w A F = record { sits = flushed_sits i p n (Open o) no_votes s u w A.sits F; waiting = F.waiting ∙ A.waiting }

after_submit : (i r p n : ℕ) (c : Command) (o : OpenAt) (s : NodeState) (w : List Message) → undecided_from 0 s.rows ≡ i → i < 1048576 → Loose i s (node_step (Submit c) s) → OpenAndWaiting i p n c o (node_step (Submit c) s) → Comes i r restless n p c s w (λ t v. OpenAndWaiting i p n c o t)
after_submit i r p n c o s w e l k A =
    and_then i r restless n p c s w (Flushed (node_step (Submit c) s)) (λ t v. OpenAndWaiting i p n c o t) (takes i r restless n p c s w (Submit c) (refl, not_full i c s e l) tt (loose_keeps i r s (node_step (Submit c) s) k)) (λ u x a F.
    no_event i r restless n p c u x (λ t v. OpenAndWaiting i p n c o t) (flushed_open i p n c o (node_step (Submit c) s) u x A F))

stepped : (i p n : ℕ) (c : Command) (o : OpenAt) (s : NodeState) → OpenAndWaiting i p n c o (settle (taken_in (Submit c) s)) → OpenAndWaiting i p n c o (node_step (Submit c) s)
unfolding node_step
stepped i p n c o s A = A

step_owes : (c : Command) (s : NodeState) (m : Message) → Owes (settle (taken_in (Submit c) s)) m → Owes (node_step (Submit c) s) m
unfolding node_step
step_owes c s m O = O

step_keeps : (i : ℕ) (c : Command) (s : NodeState) → Loose i s (settle (taken_in (Submit c) s)) → Loose i s (node_step (Submit c) s)
unfolding node_step
step_keeps i c s K = K

open_keeps : (i p n : ℕ) (c : Command) (o : OpenAt) (s : NodeState) → Sits i p n (Open o) no_votes s → s.waiting ≡ [] → Loose i s (node_step (Submit c) s)
open_keeps i p n c o s S e =
    let u : NodeState = taken_in (Submit c) s in
    let W : Waits c s u = waits_submitted c s e in
    let U : Sits i p n (Open o) no_votes u = record { row = subst (First i (Open o) no_votes) (sym W.rows) S.row; nodes = W.nodes ∙ S.nodes; node = W.node ∙ S.node; trusts = W.suspects ∙ S.trusts } in
    step_keeps i c s (then_settles i p n (Open o) no_votes s u (λ j other. ap (λ z. row_of z j) W.rows) U (quiet_new i p n o u U))

-- where it is open already, it stays as it was
pub submits_open : (i r p n : ℕ) (c : Command) (o : OpenAt) (s : NodeState) (w : List Message) → i < 1048576 → Sits i p n (Open o) no_votes s → s.waiting ≡ [] → Comes i r restless n p c s w (λ t v. OpenAndWaiting i p n c o t)
submits_open i r p n c o s w l S e = after_submit i r p n c o s w (first_undecided_is i (Open o) no_votes s.rows S.row refl) l (open_keeps i p n c o s S e) (stepped i p n c o s (open_waiting i p n c o s (taken_in (Submit c) s) S (waits_submitted c s e)))

-- and what it owed is sent
pub submits_owing : (i r p n : ℕ) (c : Command) (o : OpenAt) (s : NodeState) (w : List Message) (m : Message) → i < 1048576 → Sits i p n (Open o) no_votes s → s.waiting ≡ [] → Owes s m → Comes i r restless n p c s w (λ t v. OpenAndWaiting i p n c o t × Contains v m)
submits_owing i r p n c o s w m l S e O =
    let u : NodeState = taken_in (Submit c) s in
    let W : Waits c s u = waits_submitted c s e in
    let A : OpenAndWaiting i p n c o (node_step (Submit c) s) = stepped i p n c o s (open_waiting i p n c o s u S W) in
    let owes : Owes (node_step (Submit c) s) m = step_owes c s m (owes_on u (settle u) m (settle_onward u) (record { backing = O.backing; below = subst (λ z. IsBelow z O.backing) (sym W.number) O.below; owed = W.owed _ O.owed })) in
    and_then i r restless n p c s w (Flushed (node_step (Submit c) s)) (λ t v. OpenAndWaiting i p n c o t × Contains v m) (takes i r restless n p c s w (Submit c) (refl, not_full i c s (first_undecided_is i (Open o) no_votes s.rows S.row refl) l) tt (loose_keeps i r s (node_step (Submit c) s) (open_keeps i p n c o s S e))) (λ t v a F.
    no_event i r restless n p c t v (λ t2 v2. OpenAndWaiting i p n c o t2 × Contains v2 m) (flushed_open i p n c o (node_step (Submit c) s) t v A F, F.sent m owes))

-- a node that has no row for its lowest undecided instance, and would take the command for it
pub record IsBlank (i p n : ℕ) (c : Command) (s : NodeState) : Type 0 where
  pub before : List Row
  pub rest : List Row
  pub below : AreDecidedUpTo 0 i before
  pub beyond : IsBeyond i rest
  pub is : s.rows ≡ before ++ rest
  pub nodes : s.nodes ≡ n
  pub node : s.node ≡ p
  pub trusts : s.suspects ≡ 0
  pub waiting : s.waiting ≡ []
  pub pool : s.pool ≡ []
  pub none : row_of s.rows i ≡ None
  pub unheld : has_request (decided_prefix s) c.request ≡ false
  pub undecided : is_decided_request s c.request ≡ false
  pub free : is_estimate_beside s i c ≡ false

-- the command is pooled
record Pools (c : Command) (s u : NodeState) : Type 0 where
  waits : Waits c s u
  pool : u.pool ≡ c ∷ []

pools : (i p n : ℕ) (c : Command) (s : NodeState) → IsBlank i p n c s → Pools c s (taken_in (Submit c) s)
unfolding taken_in submitted wait_for pool_add owe
pools i p n c s B =
    let idle : is_waiting s c.request ≡ false = ap (list_any (λ w. is_same_request w c.request)) B.waiting in
    let t : NodeState = record s { waiting = s.waiting ++ c.request ∷ [] } in
    let waited : wait_for c.request s ≡ t = if_false _ _ _ idle in
    let pooled : pool_add c t ≡ record t { pool = s.pool ++ c ∷ [] } = if_false _ _ _ (ap (λ z. has_request z c.request || is_decided_request t c.request) B.pool ∙ B.undecided) in
    let u : NodeState = record t { pool = s.pool ++ c ∷ [] } in
    let took : taken_in (Submit c) s ≡ owe (Request c) None (others s) u =
    if_false _ _ _ (ap (λ z. z || is_waiting s c.request) B.unheld ∙ idle) ∙ ap (λ z. owe (Request c) None (others s) (pool_add c z)) waited ∙ ap (owe (Request c) None (others s)) pooled in
    subst (Pools c s) (sym took) (record {
      waits = record { nodes = refl; node = refl; suspects = refl; rows = refl; waiting = ap (λ z. z ++ c.request ∷ []) B.waiting; owed = λ o x. Contains-append_left s.owed _ o x; number = refl };
      pool = ap (λ z. z ++ c ∷ []) B.pool;
    })

beside_same : (i : ℕ) (c : Command) (s u : NodeState) → u.rows ≡ s.rows → is_estimate_beside u i c ≡ is_estimate_beside s i c
unfolding open_instances
beside_same i c s u e = ap (λ z. list_any (λ j. not (j == i) && option_map_or (λ v. is_same_command v c) (estimate_of (option_map (λ (r : Row). r.standing) (row_of z j))) false) (lowest_undecided 8 0 z)) e

free_now : (i : ℕ) (c : Command) (s u : NodeState) → Pools c s u → is_estimate_beside s i c ≡ false → free_command u i ≡ Some c
unfolding free_command
free_now i c s u P f = ap (find (λ d. not (is_estimate_beside u i d))) P.pool ∙ if_true _ _ _ (ap not (beside_same i c s u P.waits.rows ∙ f))

begin_due : (i : ℕ) (c : Command) (u : NodeState) → undecided_from 0 u.rows ≡ i → i < 1048576 → row_of u.rows i ≡ None → free_command u i ≡ Some c → due u ≡ Some (Begin i)
unfolding due open_instances
begin_due i c u e l none f =
    let first : lowest_undecided 8 0 u.rows ≡ i ∷ lowest_undecided 7 (i + 1) u.rows = ap (λ z. if nat_lt z 1048576 then z ∷ lowest_undecided 7 (z + 1) u.rows else []) e ∙ if_true _ _ _ (lt-ltb i 1048576 l) in
    let at : due_at u i ≡ Some (Begin i) = rw none (if_true _ _ _ (ap is_some f)) in
    ap (first_due u) first ∙ ap (λ z. option_map_or Some z (first_due u (lowest_undecided 7 (i + 1) u.rows))) at

begins : (i : ℕ) (c : Command) (u : NodeState) → row_of u.rows i ≡ None → free_command u i ≡ Some c → carry_out (Begin i) u ≡ enter_with i (record { round = 1; stamp = 0; command = c }) (leave_round i u)
unfolding carry_out enter
begins i c u none f =
    let at : standing_at u i ≡ None = ap (option_map (λ (r : Row). r.standing)) none in
    let e : entering_estimate i 1 None u ≡ Some (record { round = 1; stamp = 0; command = c }) = rw (at, f) refl in
    ap (λ z. option_map_or (λ x. enter_with i x (leave_round i u)) z u) e

rows_new : (k i : ℕ) (e : Estimated) (rows : List Row) → row_of rows i ≡ None → rows_after k (Enter i e) rows ≡ put_row (row_for i (Open (record { round = e.round; stamp = e.stamp; estimate = e.command; proposal = None })) (record { entered = k; proposed = 0; adopted = 0; decided = 0 }) no_votes) rows
rows_new k i e rows none = rw none refl

-- the node has begun instance i with the command, and settles then
pub record Begun (i p n : ℕ) (c : Command) (s : NodeState) : Type 0 where
  pub to : NodeState
  pub step : settle (taken_in (Submit c) s) ≡ settle to
  pub sits : Sits i p n (Open (at_first c)) no_votes to
  pub beside : SameBeside i s to
  pub pool : to.pool ≡ c ∷ []
  pub waiting : to.waiting ≡ c.request ∷ []

is_lowest : (i p n : ℕ) (c : Command) (s : NodeState) → IsBlank i p n c s → undecided_from 0 s.rows ≡ i
is_lowest i p n c s B = ap (undecided_from 0) B.is ∙ undecided_between i B.before B.rest B.below B.beyond

begun : (i p n : ℕ) (c : Command) (s : NodeState) → i < 1048576 → IsBlank i p n c s → Begun i p n c s
begun i p n c s l B =
    let u : NodeState = taken_in (Submit c) s in
    let P : Pools c s u = pools i p n c s B in
    let none : row_of u.rows i ≡ None = ap (λ z. row_of z i) P.waits.rows ∙ B.none in
    let free : free_command u i ≡ Some c = free_now i c s u P B.free in
    let e : Estimated = record { round = 1; stamp = 0; command = c } in
    let v : NodeState = leave_round i u in
    let g : NodeState = enter_with i e v in
    let on : Onward u g = onward_on u v g (leave_onward i u) (stage_owe_onward _ _ _ _ v) in
    let same : v.rows ≡ B.before ++ B.rest = leave_rows i u ∙ P.waits.rows ∙ B.is in
    let rows : g.rows ≡ B.before ++ row_for i (Open (at_first c)) (record { entered = next_number v; proposed = 0; adopted = 0; decided = 0 }) no_votes ∷ B.rest =
    owe_rows _ _ _ (stage (Enter i e) v) ∙ stage_rows (Enter i e) v ∙ rows_new (next_number v) i e v.rows (ap (λ z. row_of z i) (leave_rows i u) ∙ none) ∙ ap (put_row _) same ∙ put_between 0 i B.before _ B.rest B.below refl B.beyond in
    record {
      to = g;
      step = settles_on u (Begin i) (begin_due i c u (ap (undecided_from 0) P.waits.rows ∙ is_lowest i p n c s B) l none free) ∙ ap settle (begins i c u none free);
      sits = record {
        row = record { before = B.before; after = B.rest; backing = record { entered = next_number v; proposed = 0; adopted = 0; decided = 0 }; below = B.below; is = rows };
        nodes = on.nodes ∙ P.waits.nodes ∙ B.nodes;
        node = on.node ∙ P.waits.node ∙ B.node;
        trusts = on.suspects ∙ P.waits.suspects ∙ B.trusts;
      };
      beside = λ j other. stage_beside (Enter i e) _ _ _ v j other ∙ ap (λ z. row_of z j) (leave_rows i u ∙ P.waits.rows);
      pool = enter_pool i e u ∙ P.pool;
      waiting = on.waiting ∙ P.waits.waiting;
    }

begun_loose : (i p n : ℕ) (c : Command) (s : NodeState) → Begun i p n c s → Loose i s (node_step (Submit c) s)
begun_loose i p n c s B = step_keeps i c s (subst (Loose i s) (sym B.step) (then_settles i p n (Open (at_first c)) no_votes s B.to B.beside B.sits (quiet_new i p n (at_first c) B.to B.sits)))

-- where it has no round, the node enters round 1 with the command
pub submits_blank : (i r p n : ℕ) (c : Command) (s : NodeState) (w : List Message) → i < 1048576 → IsBlank i p n c s → Comes i r restless n p c s w (λ t v. OpenAndWaiting i p n c (at_first c) t)
submits_blank i r p n c s w l B =
    let G : Begun i p n c s = begun i p n c s l B in
    after_submit i r p n c (at_first c) s w (is_lowest i p n c s B) l (begun_loose i p n c s G) (stepped i p n c (at_first c) s (subst (OpenAndWaiting i p n c (at_first c)) (sym G.step) (record {
      sits = settles i p n (Open (at_first c)) no_votes G.to G.sits (quiet_new i p n (at_first c) G.to G.sits);
      waiting = (settle_onward G.to).waiting ∙ G.waiting;
    })))

-- and it begins nothing else: it has marked its estimate for i, and every other instance stands as it did
pub record BegunAlone (i : ℕ) (c : Command) (s t : NodeState) : Type 0 where
  pub running : t.running ≡ None
  pub staged : t.staged ≡ []
  pub here : standing_at t i ≡ Some (Open (at_first c))
  pub others : SameStandings i s t

step_is : (c : Command) (s u : NodeState) → settle (taken_in (Submit c) s) ≡ u → node_step (Submit c) s ≡ u
unfolding node_step
step_is c s u e = e

pub begins_alone : (i p n : ℕ) (c : Command) (s : NodeState) (w : List Message) → i < 1048576 → IsBlank i p n c s → IsQuietAbove i s → Comes i 0 restless n p c s w (λ t v. BegunAlone i c s t)
begins_alone i p n c s w l B q =
    let G : Begun i p n c s = begun i p n c s l B in
    let free : (j : ℕ) → i < j → free_command G.to j ≡ None = λ j m. free_of_one i p n (at_first c) no_votes G.to G.sits l (subst (AllAre c) (sym G.pool) (refl, tt)) j m in
    let is : node_step (Submit c) s ≡ G.to = step_is c s G.to (G.step ∙ settles_not i p n (Open (at_first c)) no_votes s G.to G.beside G.sits (quiet_new i p n (at_first c) G.to G.sits) q free) in
    and_then i 0 restless n p c s w (Flushed (node_step (Submit c) s)) (λ t v. BegunAlone i c s t) (takes i 0 restless n p c s w (Submit c) (refl, not_full i c s (is_lowest i p n c s B) l) tt (loose_keeps i 0 s (node_step (Submit c) s) (begun_loose i p n c s G))) (λ u x a F.
    let rows : u.rows ≡ G.to.rows = F.rows ∙ ap (λ z. z.rows) is in
    no_event i 0 restless n p c u x (λ t v. BegunAlone i c s t) (record {
      running = F.running;
      staged = F.staged;
      here = ap (λ z. option_map (λ (r : Row). r.standing) (row_of z i)) rows ∙ standing_first i (Open (at_first c)) no_votes G.to G.sits.row;
      others = λ j other. ap (λ z. option_map (λ (r : Row). r.standing) (row_of z j)) rows ∙ ap (option_map (λ (r : Row). r.standing)) (G.beside j other);
    }))
