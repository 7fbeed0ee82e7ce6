-- Deciding, proposing, entering a round and leaving one stage lawful facts alone.
use Rattle.std.proofs.Common.{◌≡◌, ◌<◌, ℕ, Bool, true, false, ◌&&◌, not, ◌==◌, ltb, nat_lt, List, [], ◌∷◌, ap, sym, ◌∙◌, refl, subst, Option, Some, None, is_none, if◌then◌else◌}
use Rattle.std.specs.Option.{option_map_or}
use Rattle.std.proofs.lemmas.Bool.{false≢true, eq-eqb, lt-ltb}
use Rattle.rr_types.specs.declared.command.Command.{Command}
use Rattle.rr_types.specs.declared.message.Body.TheVariants as say
use Rattle.rr_types.specs.declared.fact.Fact.TheVariants.{Enter, Propose, Decide}
use Rattle.rr_types.specs.declared.promise.Standing.{Standing}
use Rattle.rr_types.specs.declared.promise.Standing.TheVariants.{Decided, Open}
use Rattle.rr_types.specs.Rounds.{Estimated, coordinator_of}
use Rattle.rr_types.specs.Standings.{fits, is_undecided, round_of, stamp_of, proposal_of, carries_on}
use Rattle.rr_model.specs.NodeState.{NodeState, standing_at, next_number, everyone, others}
use Rattle.rr_model.specs.NodeParts.{owe, backing_at, stage, enter, enter_with, entering_estimate, leave_round, free_command, restate, restate_all, conclude, propose}
use Rattle.rr_state.proofs.SameLemmas.{both, command_same}
use Rattle.rr_core.proofs.QuietLaws.{IsQuiet, IsStep, step_none, step_then, quiet_none, quiet_then, quiet_step, owe_quiet, stage_step}

-- a decision is staged
pub conclude_step : (i : ℕ) (v : Command) (s : NodeState) → is_undecided (standing_at s i) ≡ true → IsStep s (conclude i v s)
unfolding conclude
conclude_step i v s u = step_then s (stage (Decide i v) s) _ (stage_step (Decide i v) s u) (quiet_step _ _ (owe_quiet (say.Decision i v) (Some (next_number s)) (others s) (stage (Decide i v) s)))

-- a proposal is staged
pub propose_step : (i r : ℕ) (v : Command) (s : NodeState) → is_undecided (standing_at s i) ≡ true → round_of (standing_at s i) ≡ r → coordinator_of r s.nodes ≡ s.node → is_none (proposal_of (standing_at s i)) ≡ true → IsStep s (propose i r v s)
unfolding propose
propose_step i r v s u e c n =
    let fit : fits s.nodes s.node (standing_at s i) (Propose i r v) ≡ true = both _ _ (both _ _ (both _ _ u (eq-eqb _ _ e)) (eq-eqb _ _ c)) n in
    step_then s (stage (Propose i r v) s) _ (stage_step (Propose i r v) s fit) (quiet_step _ _ (owe_quiet (say.Proposal i r v) (Some (next_number s)) (everyone s) (stage (Propose i r v) s)))

-- leaving a round is quiet
leave_quiet : (i : ℕ) (s : NodeState) → IsQuiet s (leave_round i s)
leave_quiet i s = by (nat_lt (stamp_of (standing_at s i)) (round_of (standing_at s i)) && not (coordinator_of (round_of (standing_at s i)) s.nodes == s.node))
  where
    by : (b : Bool) → IsQuiet s (if b then owe (say.Nack i (round_of (standing_at s i))) None (coordinator_of (round_of (standing_at s i)) s.nodes ∷ []) s else s)
    by true = owe_quiet (say.Nack i (round_of (standing_at s i))) None (coordinator_of (round_of (standing_at s i)) s.nodes ∷ []) s
    by false = quiet_none s

-- the entering estimate goes on from where the instance stands
pub record GoesOn (s : NodeState) (i r : ℕ) (e : Estimated) : Type 0 where
  pub round : e.round ≡ r
  pub carried : carries_on (standing_at s i) e ≡ true

abbrev estimate_from : ℕ → ℕ → Command → Estimated
estimate_from r t v = record { round = r; stamp = t; command = v }

goes_by : (s : NodeState) (i r : ℕ) (st : Option Standing) (e m : Estimated) → standing_at s i ≡ st → Some m ≡ Some e → m.round ≡ r → carries_on st m ≡ true → GoesOn s i r e
goes_by s i r st e m g h a b =
    let same : m ≡ e = cc in
    record {
      round = ap (λ (x : Estimated). x.round) (sym same) ∙ a;
      carried = ap (λ (o : Option Standing). carries_on o e) g ∙ ap (carries_on st) (sym same) ∙ b;
    }

goes_on : (i r : ℕ) (heard : Option Command) (s : NodeState) (e : Estimated) → is_undecided (standing_at s i) ≡ true → entering_estimate i r heard s ≡ Some e → GoesOn s i r e
goes_on i r heard s e u h = by (standing_at s i) refl (free_command s i) refl heard h
  where
    by : (st : Option Standing) → standing_at s i ≡ st → (free : Option Command) → free_command s i ≡ free → (other : Option Command) → entering_estimate i r other s ≡ Some e → GoesOn s i r e
    by None g (Some v) f other k = let m = (rw (g, f) at k) in goes_by s i r None e (estimate_from r 0 v) g m refl refl
    by None g None f (Some v) k = let m = (rw (g, f) at k) in goes_by s i r None e (estimate_from r 0 v) g m refl refl
    by None g None f None k = let m = (rw (g, f) at k) in absurd (cc)
    by (Some (Decided v)) g free f other k = absurd (false≢true (ap is_undecided (sym g) ∙ u))
    by (Some (Open o)) g free f other k =
        let m : Some (estimate_from r (stamp_of (standing_at s i)) o.estimate) ≡ Some e = (rw g at k) in
        let n : Some (estimate_from r o.stamp o.estimate) ≡ Some e = ap (λ (st : Option Standing). Some (estimate_from r (stamp_of st) o.estimate)) (sym g) ∙ m in
        goes_by s i r (Some (Open o)) e (estimate_from r o.stamp o.estimate) g n refl (both _ _ (eq-eqb o.stamp o.stamp refl) (command_same o.estimate))

enter_with_step : (i : ℕ) (e : Estimated) (s : NodeState) → fits s.nodes s.node (standing_at s i) (Enter i e) ≡ true → IsStep s (enter_with i e s)
enter_with_step i e s fit = step_then s (stage (Enter i e) s) _ (stage_step (Enter i e) s fit) (quiet_step _ _ (owe_quiet (say.Estimate i e) (Some (next_number s)) (coordinator_of e.round s.nodes ∷ []) (stage (Enter i e) s)))

-- a round above is entered
pub enter_step : (i r : ℕ) (heard : Option Command) (s : NodeState) → is_undecided (standing_at s i) ≡ true → round_of (standing_at s i) < r → IsStep s (enter i r heard s)
unfolding enter
enter_step i r heard s u l = by (entering_estimate i r heard s) refl
  where
    by : (o : Option Estimated) → entering_estimate i r heard s ≡ o → IsStep s (option_map_or (λ e. enter_with i e (leave_round i s)) o s)
    by None h = step_none s
    by (Some e) h =
        let q : IsQuiet s (leave_round i s) = leave_quiet i s in
        let g : GoesOn s i r e = goes_on i r heard s e u h in
        let above : ltb (round_of (standing_at s i)) e.round ≡ true = lt-ltb _ _ (subst (λ (n : ℕ). round_of (standing_at s i) < n) (sym g.round) l) in
        let fit : fits s.nodes s.node (standing_at s i) (Enter i e) ≡ true = both _ _ (both _ _ u above) g.carried in
        step_then s (leave_round i s) _ (quiet_step _ _ q) (enter_with_step i e (leave_round i s) (ap (λ (o : Option Standing). fits (leave_round i s).nodes (leave_round i s).node o (Enter i e)) (q.stands i) ∙ fit))

-- a restated proposal is quiet
proposal_quiet : (s t : NodeState) (i r k : ℕ) (p : Option Command) → IsQuiet s t → IsQuiet s ((elim p as (λ x. NodeState → NodeState) [ None ↦ λ u. u | Some v ↦ λ u. owe (say.Proposal i r v) (Some k) (everyone s) u ]) t)
proposal_quiet s t i r k None q = q
proposal_quiet s t i r k (Some v) q = quiet_then s t _ q (owe_quiet (say.Proposal i r v) (Some k) (everyone s) t)

either_quiet : (s t u : NodeState) (b : Bool) → IsQuiet s t → IsQuiet s u → IsQuiet s (if b then t else u)
either_quiet s t u true q p = q
either_quiet s t u false q p = p

-- restatement is quiet
pub restate_quiet : (i : ℕ) (s : NodeState) → IsQuiet s (restate i s)
unfolding restate
restate_quiet i s = by (standing_at s i) refl
  where
    by : (st : Option Standing) → standing_at s i ≡ st → IsQuiet s (restate i s)
    by None g = rw g (quiet_none s)
    by (Some (Decided v)) g = rw g (quiet_none s)
    by (Some (Open o)) g = rw g (proposal_quiet s _ i o.round _ o.proposal (either_quiet s _ _ (nat_lt o.stamp o.round)
        (owe_quiet (say.Estimate i (record { round = o.round; stamp = o.stamp; command = o.estimate })) (Some (backing_at (λ b. b.entered) s i)) (coordinator_of o.round s.nodes ∷ []) s)
        (owe_quiet (say.Ack i o.round) (Some (backing_at (λ b. b.adopted) s i)) (coordinator_of o.round s.nodes ∷ []) s)))

pub restate_all_quiet : (is : List ℕ) (s : NodeState) → IsQuiet s (restate_all is s)
restate_all_quiet [] s = quiet_none s
restate_all_quiet (i ∷ is) s = quiet_then s (restate i s) _ (restate_quiet i s) (restate_all_quiet is (restate i s))
