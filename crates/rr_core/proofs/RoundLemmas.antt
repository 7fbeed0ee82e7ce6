-- The parts of a round, put together.
use Rattle.std.proofs.Common.{◌≡◌, ℕ, Bool, true, false, cond, ltb, eqb, ◌&&◌, not, List, [], ◌∷◌, None, Some, Option, refl, sym, ap, ◌∙◌}
use Rattle.std.specs.List.{range_with_len}
use Rattle.rr_types.specs.declared.command.Command.{Command}
use Rattle.rr_types.specs.declared.fact.Fact.TheVariants.{Propose}
use Rattle.rr_types.specs.declared.message.Body.TheVariants as say
use Rattle.rr_types.specs.declared.promise.Standing.{Standing}
use Rattle.rr_types.specs.declared.promise.Standing.TheVariants.{Decided, Open}
use Rattle.rr_types.specs.Standings.{estimate_of, is_undecided, round_of, stamp_of}
use Rattle.rr_types.specs.Rounds.{OpenAt, coordinator_of}
use Rattle.rr_model.specs.NodeState.{NodeState, Row, everyone, next_number, standing_at, open_instances}
use Rattle.rr_model.specs.NodeParts.{owe, stage, leave_round, enter, enter_with, propose, restate, backing_at, free_command}
use Rattle.rr_core.specs.Steps.{Stepped, stepped}
use Rattle.rr_core.specs.Places.{HasNoRound, first_free, is_estimate_beside, is_estimate_of}
use Rattle.rr_core.specs.Rounds.{owe_coordinator}

pub first_free_is : (s : NodeState) (i : ℕ) → first_free s.rows (open_instances s) i s.pool ≡ free_command s i
unfolding first_free is_estimate_beside is_estimate_of free_command
first_free_is s i = refl

pub first_free_from : (s : NodeState) (i : ℕ) (rows : List Row) (instances : List ℕ) (pool : List Command) (x : Option Command) → rows ≡ s.rows → instances ≡ open_instances s → pool ≡ s.pool → x ≡ first_free rows instances i pool → x ≡ free_command s i
first_free_from s i rows instances pool x e f g h = let k = first_free_is s i in cc

-- an instance without a round leaves none
no_nack : (i : ℕ) (s : NodeState) → HasNoRound (standing_at s i) → leave_round i s ≡ s
no_nack i s h = let r = h.round in let p = h.stamp in rw (r, p) refl

pub not_left : (i : ℕ) (s : Stepped) → HasNoRound (standing_at s.state i) → s ≡ stepped (leave_round i) s
not_left i s h = ap (λ (t : NodeState). record { base = s.base; state = t }) (sym (no_nack i s.state h))

pub propose_from : (i r : ℕ) (v : Command) (s t u : Stepped) (k : ℕ) → k ≡ next_number s.state → t ≡ stepped (stage (Propose i r v)) s → u ≡ stepped (λ w. owe (say.Proposal i r v) (Some k) (everyone w) w) t → u ≡ stepped (propose i r v) s
unfolding propose stage
propose_from i r v s t u k n e f = f ∙ rw (e, n) refl

coordinator_nodes_by : (i : ℕ) (o : OpenAt) (s : NodeState) (b : Bool) → ltb o.stamp o.round ≡ b → (owe_coordinator i o s).nodes ≡ s.nodes
unfolding owe_coordinator owe
coordinator_nodes_by i o s true h = rw h
coordinator_nodes_by i o s false h = rw h

pub coordinator_nodes : (i : ℕ) (o : OpenAt) (s : NodeState) → (owe_coordinator i o s).nodes ≡ s.nodes
coordinator_nodes i o s = coordinator_nodes_by i o s (ltb o.stamp o.round) refl

-- an open instance without a proposal
pub restate_silent : (i : ℕ) (o : OpenAt) (s : NodeState) → standing_at s i ≡ Some (Open o) → o.proposal ≡ None → restate i s ≡ owe_coordinator i o s
unfolding restate owe_coordinator
restate_silent i o s h n = rw (h, n) refl

restate_is : (i : ℕ) (o : OpenAt) (v : Command) (s : NodeState) → standing_at s i ≡ Some (Open o) → o.proposal ≡ Some v → restate i s ≡ owe (say.Proposal i o.round v) (Some (backing_at (λ b. b.proposed) s i)) (everyone s) (owe_coordinator i o s)
unfolding restate owe_coordinator
restate_is i o v s h n = rw (h, n) refl

restated_by : (i : ℕ) (s : NodeState) (x : Option Standing) → standing_at s i ≡ x → estimate_of x ≡ None → restate i s ≡ s
unfolding restate
restated_by i s None e h = rw e refl
restated_by i s (Some (Decided v)) e h = rw e refl
restated_by i s (Some (Open o)) e h = cc

-- an instance without a round isn't restated
pub not_restated : (i : ℕ) (s : Stepped) → HasNoRound (standing_at s.state i) → s ≡ stepped (restate i) s
not_restated i s h = ap (λ (t : NodeState). record { base = s.base; state = t }) (sym (restated_by i s.state (standing_at s.state i) refl h.estimate))

-- and one with a proposal
pub restate_proposing : (i : ℕ) (o : OpenAt) (v : Command) (s t u : Stepped) (r k : ℕ) → standing_at s.state i ≡ Some (Open o) → Some v ≡ o.proposal → r ≡ o.round → k ≡ backing_at (λ b. b.proposed) s.state i → t ≡ stepped (owe_coordinator i o) s → u ≡ stepped (λ w. owe (say.Proposal i r v) (Some k) (everyone w) w) t → u ≡ stepped (restate i) s
restate_proposing i o v s t u r k h n a b e f =
    let is : owe (say.Proposal i r v) (Some k) (everyone (owe_coordinator i o s.state)) (owe_coordinator i o s.state) ≡ restate i s.state = rw (b, a) (ap (λ m. owe (say.Proposal i o.round v) (Some (backing_at (λ b. b.proposed) s.state i)) (range_with_len 0 m) (owe_coordinator i o s.state)) (coordinator_nodes i o s.state) ∙ sym (restate_is i o v s.state h (sym n))) in
    f ∙ rw e (ap (λ (w : NodeState). record { base = s.base; state = w }) is)

-- a round that is left leaves the standings alone
pub left_undecided : (i : ℕ) (s t : Stepped) → t ≡ stepped (leave_round i) s → is_undecided (standing_at s.state i) ≡ true → is_undecided (standing_at t.state i) ≡ true
unfolding owe
left_undecided i s t e u = ap (λ (w : Stepped). is_undecided (standing_at w.state i)) e ∙ by (ltb (stamp_of (standing_at s.state i)) (round_of (standing_at s.state i)) && not (eqb (coordinator_of (round_of (standing_at s.state i)) s.state.nodes) s.state.node))
  where
    by : (b : Bool) → is_undecided (standing_at (cond b (owe (say.Nack i (round_of (standing_at s.state i))) None (coordinator_of (round_of (standing_at s.state i)) s.state.nodes ∷ []) s.state) s.state) i) ≡ true
    by true = u
    by false = u

-- an instance that no fact names enters round 1 with the command that the pool has for it
pub unnamed_undecided : (s : NodeState) (i : ℕ) → standing_at s i ≡ None → is_undecided (standing_at s i) ≡ true
unnamed_undecided s i n = rw n refl

pub begins : (i : ℕ) (v : Command) (s t : Stepped) → standing_at s.state i ≡ None → free_command s.state i ≡ Some v → t ≡ stepped (enter_with i (record { round = 1; stamp = 0; command = v })) s → t ≡ stepped (enter i 1 None) s
unfolding enter
begins i v s t n f e =
    let is : enter i 1 None s.state ≡ enter_with i (record { round = 1; stamp = 0; command = v }) s.state = rw (n, f) refl in
    e ∙ ap (λ (w : NodeState). record { base = s.base; state = w }) (sym is)
