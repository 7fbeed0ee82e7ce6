-- What a node does when it hears a proposal, an acknowledgement or a decision for its lowest undecided instance.
use Rattle.std.proofs.Common.{◌≡◌, ℕ, ◌+◌, ◌<◌, zero, suc, Bool, true, false, ◌==◌, ◌&&◌, not, nat_lt, nat_le, filter, is_some, if◌then◌else◌, List, [], ◌∷◌, length, Contains, None, Some, refl, ap, sym, ◌∙◌, subst, arith, eq-eqb}
use Rattle.std.specs.Option.{option_map_or}
use Rattle.std.specs.List.{range_with_len}
use Rattle.std.proofs.lemmas.Bool.{lt-ltb, ne_eqb}
use Rattle.std.proofs.lemmas.Option.{none-some}
use Rattle.rr_types.specs.declared.command.Command.{Command}
use Rattle.rr_types.specs.declared.fact.Fact.TheVariants.{Adopt, Decide}
use Rattle.rr_types.specs.declared.message.Body.TheVariants as say
use Rattle.rr_types.specs.declared.promise.Standing.{Standing}
use Rattle.rr_types.specs.declared.promise.Standing.TheVariants.{Decided, Open}
use Rattle.rr_types.specs.Rounds.{OpenAt, coordinator_of, majority_of}
use Rattle.rr_types.specs.Facts.{after_fact}
use Rattle.rr_types.specs.Nodes.{has_member, with_member}
use Rattle.rr_types.specs.Standings.{is_undecided, round_of, stamp_of, proposal_of}
use Rattle.rr_model.specs.NodeState.{NodeState, Row, Tally, no_votes, row_of, standing_at, is_open, next_number, everyone, others}
use Rattle.rr_model.specs.NodeParts.{stage, pool_add, backing_at, conclude}
use Rattle.rr_model.specs.NodeDue.{Conclude, is_majority, due_of_coordinator, due_of_row, carry_out, settle, pick}
use Rattle.rr_types.specs.declared.input.Input.TheVariants.{Hear}
use Rattle.rr_model.specs.NodeStep.{acknowledge, count_ack, catch_up, take_proposal, has_proposed, heard_body, taken_in, node_step}
use Rattle.rr_model.proofs.NodeEnds.{settles_on}
use Rattle.rr_model.proofs.NodeRows.{stands, row_then, row_of-rows_after}
use Rattle.rr_model.proofs.NodeFirsts.{row_for, First, first_row, Onward, onward_on, owe_onward, owe_rows, stage_rows, stage_number, stage_onward, stage_owe_onward, stage_here, settle_onward}
use Rattle.rr_model.proofs.NodeMoves.{if_true, if_false, no_lt, Owes, owes_on, owes_new, Sits, sits_on, standing_first, is_open_first, due_first, nobody, quiet, settles, from_to, pool_onward, pool_sits, heard_here, change_sits, in_range}

-- the round with its proposal adopted
abbrev pub adopting : ℕ → Command → OpenAt → OpenAt
adopting r v o = record o { stamp = r; estimate = v }

-- a node has adopted the proposal of its round, and owes the coordinator an acknowledgement
pub record Adopted (i p n k r : ℕ) (v : Command) (o : OpenAt) (t : Tally) (s u : NodeState) : Type 0 where
  pub sits : Sits i p n (Open (adopting r v o)) t u
  pub onward : Onward s u
  pub owes : Owes u (from_to p k (say.Ack i r))

-- an Adopt has the next number, which its row keeps
adopt_number : (i r : ℕ) (v : Command) (o : OpenAt) (t : Tally) (s : NodeState) → First i (Open o) t s.rows → backing_at (λ b. b.adopted) (stage (Adopt i r v) s) i ≡ next_number s
adopt_number i r v o t s F =
    let e : row_of s.rows i ≡ Some (row_for i (Open o) F.backing t) = first_row i (Open o) t s.rows F in
    ap (λ z. option_map_or (λ (x : Row). x.backing.adopted) (row_of z i) 0) (stage_rows (Adopt i r v) s)
    ∙ ap (λ z. option_map_or (λ (x : Row). x.backing.adopted) z 0) (row_of-rows_after (next_number s) (Adopt i r v) s.rows i ∙ if_true (i == i) _ _ (eq-eqb i i refl) ∙ ap (λ z. row_then (next_number s) (Adopt i r v) (after_fact (stands z) (Adopt i r v)) z) e)

pub proposal_taken : (i p n k r : ℕ) (v : Command) (o : OpenAt) (t : Tally) (s : NodeState) → Sits i p n (Open o) t s → i < 1048576 → o.round ≡ r → o.stamp < r → coordinator_of r n ≡ k → taken_in (Hear (from_to k p (say.Proposal i r v))) s ≡ acknowledge i r k (stage (Adopt i r v) (pool_add v s))
unfolding heard_body take_proposal
proposal_taken i p n k r v o t s S l x m c =
    let at : standing_at s i ≡ Some (Open o) = standing_first i (Open o) t s S.row in
    let u : NodeState = pool_add v s in
    let there : standing_at u i ≡ Some (Open o) = standing_first i (Open o) t u (pool_sits i p n (Open o) t v s S).row in
    let stay : catch_up i r v u ≡ u = if_false _ _ _ (ap (λ z. nat_lt (round_of z) r) there ∙ no_lt o.round r (omega arith)) in
    heard_here p (say.Proposal i r v) k s S.node
    ∙ if_true _ _ _ (ap is_undecided at)
    ∙ if_true _ _ _ (is_open_first i o t s S.row l)
    ∙ if_true _ _ _ (eq-eqb _ k (ap (coordinator_of r) S.nodes ∙ c))
    ∙ ap (take_proposal i r v k) stay
    ∙ if_true _ _ _ (ap (λ z. round_of z == r) there ∙ eq-eqb o.round r x)
    ∙ ap (acknowledge i r k) (if_true _ _ _ (ap (λ z. nat_lt (stamp_of z) r) there ∙ lt-ltb o.stamp r m))

-- a node hears the proposal of its round
pub hears_proposal : (i p n k r : ℕ) (v : Command) (o : OpenAt) (t : Tally) (s : NodeState) → Sits i p n (Open o) t s → i < 1048576 → o.round ≡ r → o.stamp < r → coordinator_of r n ≡ k → t.acks ≡ 0 → t.nacks ≡ 0 → (o.proposal ≡ None → pick n t ≡ None) → Adopted i p n k r v o t s (node_step (Hear (from_to k p (say.Proposal i r v))) s)
unfolding node_step
hears_proposal i p n k r v o t s S l x m c a b lacks =
    let u : NodeState = pool_add v s in
    let U : Sits i p n (Open o) t u = pool_sits i p n (Open o) t v s S in
    let w : NodeState = stage (Adopt i r v) u in
    let g : NodeState = acknowledge i r k w in
    let on : Onward s g = onward_on s u g (pool_onward v s) (onward_on u w g (stage_onward (Adopt i r v) u) (owe_onward _ _ _ w)) in
    let G : Sits i p n (Open (adopting r v o)) t g = sits_on i p n (Open o) t s g _ t S on (subst (First i (Open (adopting r v o)) t) (sym (owe_rows _ _ _ w)) (stage_here (Open o) t (Adopt i r v) u _ U.row refl)) in
    let number : backing_at (λ z. z.adopted) w i ≡ next_number u = adopt_number i r v o t u U.row in
    let more : next_number w ≡ next_number u + 1 = stage_number (Adopt i r v) u in
    let owes : Owes g (from_to w.node k (say.Ack i r)) = owes_new (say.Ack i r) (backing_at (λ z. z.adopted) w i) (k ∷ []) w k (0, omega arith, refl) (omega arith) in
    subst (λ z. Adopted i p n k r v o t s (settle z)) (sym (proposal_taken i p n k r v o t s S l x m c)) (record {
      sits = settles i p n _ t g G (quiet i p n (adopting r v o) t g G (ap (is_majority g) a ∙ nobody g) b lacks);
      onward = onward_on s g (settle g) on (settle_onward g);
      owes = owes_on g (settle g) _ (settle_onward g) (subst (λ z. Owes g (from_to z k (say.Ack i r))) ((stage_onward (Adopt i r v) u).node ∙ U.node) owes);
    })

kept : (f : ℕ → Bool) (xs : List ℕ) (q : ℕ) → Contains xs q → f q ≡ true → Contains (filter f xs) q
kept f [] q c e = let l : c.0 < 0 = c.1 in absurd (omega arith)
kept f (x ∷ xs) q (zero, l, y) e = subst (λ z. Contains z q) (sym (if_true (f x) (x ∷ filter f xs) (filter f xs) (ap f y ∙ e))) (0, omega arith, y)
kept f (x ∷ xs) q (suc k, l, y) e = by (f x) (kept f xs q (k, (omega arith), y) e)
  where
    by : (b : Bool) → Contains (filter f xs) q → Contains (if b then x ∷ filter f xs else filter f xs) q
    by true r = (suc r.0, (let m : r.0 < length (filter f xs) = r.1 in omega arith), r.2)
    by false r = r

-- a node has decided, and owes each other node its decision
pub record Concluded (i p n : ℕ) (v : Command) (s u : NodeState) : Type 0 where
  pub sits : Sits i p n (Decided v) no_votes u
  pub onward : Onward s u
  pub owes : (q : ℕ) → q < n → (q ≡ p → ⊥) → Owes u (from_to p q (say.Decision i v))

concludes : (i p n : ℕ) (v : Command) (st : Standing) (t : Tally) (s : NodeState) → Sits i p n st t s → Concluded i p n v s (settle (conclude i v s))
unfolding conclude
concludes i p n v st t s S =
    let u : NodeState = stage (Decide i v) s in
    let g : NodeState = conclude i v s in
    let on : Onward s g = stage_owe_onward (Decide i v) _ _ _ s in
    let G : Sits i p n (Decided v) no_votes g = sits_on i p n st t s g _ no_votes S on (subst (First i (Decided v) no_votes) (sym (owe_rows _ _ _ u)) (stage_here st t (Decide i v) s (Decided v) S.row refl)) in
    record {
      sits = settles i p n (Decided v) no_votes g G refl;
      onward = onward_on s g (settle g) on (settle_onward g);
      owes = λ q l other. owes_on g (settle g) _ (settle_onward g)
          (subst (λ z. Owes g (from_to z q (say.Decision i v))) ((stage_onward (Decide i v) s).node ∙ S.node)
          (owes_new (say.Decision i v) (next_number s) (others s) u q
          (kept (λ j. not (j == s.node)) (everyone s) q (subst (λ z. Contains (range_with_len 0 z) q) (sym S.nodes) (in_range 0 n q (omega arith) (omega arith))) (ap not (ne_eqb q s.node (λ e. other (e ∙ S.node)))))
          (let y : next_number u ≡ next_number s + 1 = stage_number (Decide i v) s in omega arith)));
    }

-- a node hears a decision
pub hears_decision : (i p n k : ℕ) (v : Command) (o : OpenAt) (t : Tally) (s : NodeState) → Sits i p n (Open o) t s → Concluded i p n v s (node_step (Hear (from_to k p (say.Decision i v))) s)
unfolding node_step heard_body
hears_decision i p n k v o t s S =
    subst (λ z. Concluded i p n v s (settle z)) (sym (heard_here p (say.Decision i v) k s S.node ∙ if_true _ _ _ (ap is_undecided (standing_first i (Open o) t s S.row)))) (concludes i p n v (Open o) t s S)

-- whether a set of nodes has a majority of n
abbrev pub is_enough : ℕ → ℕ → Bool
is_enough n set = nat_le (majority_of n) (length (filter (λ q. has_member set q) (range_with_len 0 n)))

pub enough_here : (n set : ℕ) (s : NodeState) → s.nodes ≡ n → is_majority s set ≡ is_enough n set
enough_here n set s e = ap (λ z. is_enough z set) e

-- the tally with an acknowledgement of q
abbrev pub acked : ℕ → Tally → Tally
acked q t = record t { acks = with_member t.acks q }

pub count_ack_sits : (i p n q : ℕ) (st : Standing) (t : Tally) (s : NodeState) → Sits i p n st t s → Sits i p n st (acked q t) (count_ack i q s) × Onward s (count_ack i q s)
unfolding count_ack
count_ack_sits i p n q st t s S = change_sits i p n st t s (acked q) S

pub ack_taken : (i p n q r : ℕ) (v : Command) (o : OpenAt) (t : Tally) (s : NodeState) → Sits i p n (Open o) t s → i < 1048576 → o.round ≡ r → o.proposal ≡ Some v → taken_in (Hear (from_to q p (say.Ack i r))) s ≡ count_ack i q s
unfolding heard_body
ack_taken i p n q r v o t s S l x has =
    let at : standing_at s i ≡ Some (Open o) = standing_first i (Open o) t s S.row in
    let made : has_proposed i r s ≡ true = ap (λ z. round_of z == r && is_some (proposal_of z)) at ∙ ap (λ z. z && is_some o.proposal) (eq-eqb o.round r x) ∙ ap is_some has in
    heard_here p (say.Ack i r) q s S.node
    ∙ if_true _ _ _ (ap (λ z. z && has_proposed i r s) (is_open_first i o t s S.row l) ∙ made)

-- by whether the acknowledgements are enough then, the node waits still, or has decided
abbrev pub Acknowledged : (i p n : ℕ) (v : Command) (o : OpenAt) (t : Tally) (s u : NodeState) → Bool → Type 0
Acknowledged i p n v o t s u false = Sits i p n (Open o) t u × Onward s u
Acknowledged i p n v o t s u true = Concluded i p n v s u

pub concluded : (j : ℕ) (z : Command) (m : NodeState) → carry_out (Conclude j z) m ≡ conclude j z m
unfolding carry_out
concluded j z m = refl

-- a coordinator hears an acknowledgement of its round
pub hears_ack : (i p n q r : ℕ) (v : Command) (o : OpenAt) (t : Tally) (s : NodeState) → Sits i p n (Open o) t s → i < 1048576 → o.round ≡ r → coordinator_of r n ≡ p → o.proposal ≡ Some v → t.nacks ≡ 0 → (b : Bool) → is_enough n (with_member t.acks q) ≡ b → Acknowledged i p n v o (acked q t) s (node_step (Hear (from_to q p (say.Ack i r))) s) b
unfolding node_step
hears_ack i p n q r v o t s S l x c has none false e =
    let u : NodeState = count_ack i q s in
    let U : Sits i p n (Open o) (acked q t) u × Onward s u = count_ack_sits i p n q (Open o) t s S in
    subst (λ z. Sits i p n (Open o) (acked q t) (settle z) × Onward s (settle z)) (sym (ack_taken i p n q r v o t s S l x has)) (
      settles i p n (Open o) (acked q t) u U.0 (quiet i p n o (acked q t) u U.0 (enough_here n (with_member t.acks q) u U.0.nodes ∙ e) none (λ y. absurd (none-some v (sym y ∙ has)))),
      onward_on s u (settle u) U.1 (settle_onward u),
    )
hears_ack i p n q r v o t s S l x c has none true e =
    let u : NodeState = count_ack i q s in
    let U : Sits i p n (Open o) (acked q t) u × Onward s u = count_ack_sits i p n q (Open o) t s S in
    let me : coordinator_of o.round u.nodes ≡ u.node = ap (coordinator_of o.round) U.0.nodes ∙ ap (λ z. coordinator_of z n) x ∙ c ∙ sym U.0.node in
    let ends : due_of_row u i (acked q t) (Open o) ≡ Some (Conclude i v) = if_true _ _ _ (eq-eqb _ u.node me) ∙ ap (due_of_coordinator u i (acked q t) o.round) has ∙ if_true _ _ _ (enough_here n (with_member t.acks q) u U.0.nodes ∙ e) in
    let next : settle u ≡ settle (conclude i v u) = settles_on u (Conclude i v) (due_first i o (acked q t) u (Conclude i v) U.0.row l ends) ∙ ap settle (concluded i v u) in
    let y : Concluded i p n v u (settle (conclude i v u)) = concludes i p n v (Open o) (acked q t) u U.0 in
    subst (λ z. Concluded i p n v s z) (sym (ap settle (ack_taken i p n q r v o t s S l x has) ∙ next)) (record { sits = y.sits; onward = onward_on s u _ U.1 y.onward; owes = y.owes })

and_false : (a : Bool) → (a && false) ≡ false
and_false true = refl
and_false false = refl

-- one that has decided leaves it
pub ignores_ack : (i p n q r : ℕ) (v : Command) (t : Tally) (s : NodeState) → Sits i p n (Decided v) t s → 0 < r → Sits i p n (Decided v) t (node_step (Hear (from_to q p (say.Ack i r))) s) × Onward s (node_step (Hear (from_to q p (say.Ack i r))) s)
unfolding node_step heard_body
ignores_ack i p n q r v t s S l =
    let at : standing_at s i ≡ Some (Decided v) = standing_first i (Decided v) t s S.row in
    let not_made : has_proposed i r s ≡ false = ap (λ z. round_of z == r && is_some (proposal_of z)) at ∙ ap (λ z. z && false) (ne_eqb 0 r (λ e. omega arith)) in
    subst (λ z. Sits i p n (Decided v) t (settle z) × Onward s (settle z)) (sym (heard_here p (say.Ack i r) q s S.node ∙ if_false _ _ _ (ap (λ z. is_open s i && z) not_made ∙ and_false (is_open s i))))
    (settles i p n (Decided v) t s S refl, settle_onward s)
