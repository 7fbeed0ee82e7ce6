-- Whatever is due is lawful: a round that may be begun, or a proposal or a decision that may be made.
use Rattle.std.proofs.Common.{◌≡◌, ◌+◌, ◌^◌, ℕ, zero, suc, arith, Bool, true, false, ◌&&◌, ◌==◌, nat_lt, List, [], ◌∷◌, ap, refl, Option, Some, None, is_some, is_none, option_map, if◌then◌else◌}
use Rattle.std.specs.Option.{option_map_or}
use Rattle.std.proofs.lemmas.Bool.{eqb-true}
use Rattle.rr_types.specs.declared.command.Command.{Command}
use Rattle.rr_types.specs.declared.promise.Standing.{Standing}
use Rattle.rr_types.specs.declared.promise.Standing.TheVariants.{Decided, Open}
use Rattle.rr_types.specs.Rounds.{coordinator_of}
use Rattle.rr_types.specs.Nodes.{has_member}
use Rattle.rr_types.specs.Standings.{is_undecided, round_of, proposal_of}
use Rattle.rr_model.specs.NodeState.{NodeState, Row, Tally, row_of, standing_at, open_instances}
use Rattle.rr_types.specs.Nodes.{joined}
use Rattle.rr_model.specs.NodeParts.{free_command}
use Rattle.rr_model.specs.NodeDue.{Due, Begin, Offer, Conclude, MoveOn, pick, is_majority, due_of_coordinator, due_of_participant, due_of_row, due_at, first_due, due, carry_out, settle_within, settle}
use Rattle.rr_core.proofs.QuietLaws.{IsStep, step_none, step_then}
use Rattle.rr_core.proofs.PartLaws.{conclude_step, propose_step, enter_step}

-- a proposal may be made
record MayPropose (s : NodeState) (i r : ℕ) : Type 0 where
  undecided : is_undecided (standing_at s i) ≡ true
  round : round_of (standing_at s i) ≡ r
  coordinates : coordinator_of r s.nodes ≡ s.node
  first : is_none (proposal_of (standing_at s i)) ≡ true

-- a round may be begun
record MayBegin (s : NodeState) (i : ℕ) : Type 0 where
  undecided : is_undecided (standing_at s i) ≡ true
  fresh : round_of (standing_at s i) ≡ 0

-- what is due is lawful
abbrev IsDue : NodeState → Due → Type 0
IsDue s (Begin i) = MayBegin s i
IsDue s (Offer i r v) = MayPropose s i r
IsDue s (Conclude i v) = is_undecided (standing_at s i) ≡ true
IsDue s (MoveOn i) = is_undecided (standing_at s i) ≡ true

-- the same of what may be due
abbrev AreDue : NodeState → Option Due → Type 0
AreDue s None = Unit {0}
AreDue s (Some d) = IsDue s d

participant_due : (s : NodeState) (i r : ℕ) → is_undecided (standing_at s i) ≡ true → AreDue s (due_of_participant s i r)
participant_due s i r u = by (has_member s.suspects (coordinator_of r s.nodes) && nat_lt r 2147483647)
  where
    by : (b : Bool) → AreDue s (if b then Some (MoveOn i) else None)
    by true = u
    by false = tt

coordinator_due : (s : NodeState) (i : ℕ) (tally : Tally) (r : ℕ) (p : Option Command) → is_undecided (standing_at s i) ≡ true → round_of (standing_at s i) ≡ r → coordinator_of r s.nodes ≡ s.node → proposal_of (standing_at s i) ≡ p → AreDue s (due_of_coordinator s i tally r p)
coordinator_due s i tally r None u e c g = by (pick s.nodes tally)
  where
    by : (o : Option Command) → AreDue s (option_map (λ v. Offer i r v) o)
    by None = tt
    by (Some v) = record { undecided = u; round = e; coordinates = c; first = ap is_none g }
coordinator_due s i tally r (Some v) u e c g = by (is_majority s tally.acks) (is_majority s (joined tally.acks tally.nacks) && nat_lt r 2147483647)
  where
    by : (a b : Bool) → AreDue s (if a then Some (Conclude i v) else (if b then Some (MoveOn i) else None))
    by true b = u
    by false true = u
    by false false = tt

row_due : (s : NodeState) (i : ℕ) (tally : Tally) (st : Standing) → standing_at s i ≡ Some st → AreDue s (due_of_row s i tally st)
row_due s i tally (Decided v) e = tt
row_due s i tally (Open o) e = by (coordinator_of o.round s.nodes == s.node) refl
  where
    u : is_undecided (standing_at s i) ≡ true
    u = ap is_undecided e

    by : (b : Bool) → (coordinator_of o.round s.nodes == s.node) ≡ b → AreDue s (if b then due_of_coordinator s i tally o.round o.proposal else due_of_participant s i o.round)
    by true h = coordinator_due s i tally o.round o.proposal (ap is_undecided e) (ap round_of e) (eqb-true _ _ h) (ap proposal_of e)
    by false h = participant_due s i o.round (ap is_undecided e)

at_due : (s : NodeState) (i : ℕ) → AreDue s (due_at s i)
at_due s i = by (row_of s.rows i) refl
  where
    fresh : (b : Bool) → row_of s.rows i ≡ None → AreDue s (if b then Some (Begin i) else None)
    fresh true h = record { undecided = ap (λ (o : Option Row). is_undecided (option_map (λ r. r.standing) o)) h; fresh = ap (λ (o : Option Row). round_of (option_map (λ r. r.standing) o)) h }
    fresh false h = tt

    by : (o : Option Row) → row_of s.rows i ≡ o → AreDue s (due_at s i)
    by None h = rw h (fresh (is_some (free_command s i)) h)
    by (Some row) h = rw h (row_due s i row.tally row.standing (ap (option_map (λ (r : Row). r.standing)) h))

first_is_due : (s : NodeState) (is : List ℕ) → AreDue s (first_due s is)
first_is_due s [] = tt
first_is_due s (i ∷ is) = by (due_at s i) (at_due s i) (first_is_due s is)
  where
    by : (o : Option Due) → AreDue s o → AreDue s (first_due s is) → AreDue s (option_map_or Some o (first_due s is))
    by None h more = more
    by (Some d) h more = h

due_is : (s : NodeState) → AreDue s (due s)
unfolding due
due_is s = first_is_due s (open_instances s)

carry_step : (s : NodeState) (d : Due) → IsDue s d → IsStep s (carry_out d s)
unfolding carry_out
carry_step s (Begin i) h = enter_step i 1 None s h.undecided (omega (arith, h.fresh))
carry_step s (Offer i r v) h = propose_step i r v s h.undecided h.round h.coordinates h.first
carry_step s (Conclude i v) h = conclude_step i v s h
carry_step s (MoveOn i) h = enter_step i (round_of (standing_at s i) + 1) None s h (omega arith)

within_step : (turns : ℕ) (s : NodeState) → IsStep s (settle_within turns s)
unfolding settle_within
within_step zero s = step_none s
within_step (suc turns) s = by (λ t. within_step turns t) (due s) (due_is s)
  where
    by : ((t : NodeState) → IsStep t (settle_within turns t)) → (o : Option Due) → AreDue s o → IsStep s (option_map_or (λ d. settle_within turns (carry_out d s)) o s)
    by more None h = step_none s
    by more (Some d) h = step_then s (carry_out d s) _ (carry_step s d h) (more (carry_out d s))

pub settle_step : (s : NodeState) → IsStep s (settle s)
unfolding settle
settle_step s = within_step (2 ^ 54) s
