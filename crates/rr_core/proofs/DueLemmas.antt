-- The loops over what is due follow its definition, instance by instance and turn by turn.
use Rattle.std.proofs.Common.{◌≡◌, ◌+◌, ◌<◌, ℕ, zero, suc, arith, Bool, true, false, eqb, not, ◌&&◌, ◌||◌, List, [], ◌∷◌, length, get_or, drop, ap, sym, ◌∙◌, refl, if◌then◌else◌, Option, Some, None}
use Rattle.std.specs.Prelude.{nat_le}
use Rattle.std.specs.List.{list_any}
use Rattle.std.specs.Option.{option_map_or}
use Rattle.std.proofs.lemmas.Bool.{eqb-true, lt-leb}
use Rattle.std.proofs.lemmas.List.{at_drop_more}
use Rattle.rr_types.specs.Nodes.{has_member, joined}
use Rattle.rr_types.specs.Rounds.{OpenAt, coordinator_of, majority_of}
use Rattle.rr_types.specs.declared.promise.Standing.TheVariants.{Decided, Open}
use Rattle.rr_state.proofs.TallyLemmas.{empty_has, empty_lacks, joined_empty}
use Rattle.rr_types.specs.declared.command.Command.{Command}
use Rattle.rr_types.specs.Commands.{is_same_command}
use Rattle.rr_types.specs.Standings.{estimate_of, is_undecided}
use Rattle.rr_types.specs.declared.promise.Standing.{Standing}
use Rattle.rr_model.specs.NodeState.{NodeState, Tally, Row, row_of, standing_at, open_instances}
use Rattle.rr_model.specs.NodeParts.{is_estimate_beside, free_command}
use Rattle.rr_model.specs.NodeDue.{Due, due, due_at, due_of_row, due_of_coordinator, due_of_participant, is_majority, first_due, carry_out, settle_within}
use Rattle.rr_model.specs.NodeDue.Due.{Begin}
use Rattle.rr_core.specs.Places.{first_free}
use Rattle.rr_core.specs.Steps as steps
use Rattle.rr_core.proofs.SpentLemmas.{find_same}
use Rattle.rr_core.proofs.RoundLemmas.{first_free_is}

-- nothing is due for a row that has decided, and what is due for an open one is due for its row
pub decided_waits : (s : NodeState) (i : ℕ) (t : Tally) (d : Standing) → not (is_undecided (Some d)) ≡ true → None ≡ due_of_row s i t d
decided_waits s i t (Decided v) h = refl
decided_waits s i t (Open o) h = cc

pub open_due : (s : NodeState) (i : ℕ) (t u : Tally) (d : Standing) (o : OpenAt) (x : Option Due) → d ≡ Open o → t ≡ u → x ≡ due_of_row s i u (Open o) → x ≡ due_of_row s i t d
open_due s i t u d o x e f h = h ∙ ap (λ y. due_of_row s i y (Open o)) (sym f) ∙ ap (λ y. due_of_row s i t y) (sym e)

-- nothing is due for an instance: the next ones are looked at
pub first_due_more : (s : NodeState) (is : List ℕ) (k i : ℕ) → k < length is → i ≡ get_or is k i → due_at s i ≡ None → first_due s (drop k is) ≡ first_due s (drop (k + 1) is)
first_due_more s is k i l e n =
    let f : due_at s (get_or is k i) ≡ None = rw (sym e) n in
    at_drop_more (first_due s) is k i l ∙ ap (λ (o : Option Due). option_map_or Some o (first_due s (drop (k + 1) is))) f

-- something is due for an instance
pub first_due_here : (s : NodeState) (is : List ℕ) (k i : ℕ) (d : Due) → k < length is → i ≡ get_or is k i → due_at s i ≡ Some d → first_due s (drop k is) ≡ Some d
first_due_here s is k i d l e n =
    let f : due_at s (get_or is k i) ≡ Some d = rw (sym e) n in
    at_drop_more (first_due s) is k i l ∙ ap (λ (o : Option Due). option_map_or Some o (first_due s (drop (k + 1) is))) f

-- nothing is due
pub settled : (n : ℕ) (s : NodeState) → due s ≡ None → settle_within n s ≡ s
unfolding settle_within
settled zero s e = refl
settled (suc n) s e = ap (λ (o : Option Due). option_map_or (λ d. settle_within n (carry_out d s)) o s) e

-- one turn
pub settle_more : (n m : ℕ) (s : NodeState) (d : Due) → n ≡ m + 1 → due s ≡ Some d → settle_within n s ≡ settle_within m (carry_out d s)
unfolding settle_within
settle_more n m s d e f = let g : n ≡ suc m = omega arith in rw g (ap (λ (o : Option Due). option_map_or (λ d. settle_within m (carry_out d s)) o s) f)

-- no turn is left
pub settle_none : (s : NodeState) → settle_within 0 s ≡ s
unfolding settle_within
settle_none s = refl

-- the test of a command whether it is the estimate of instance j
abbrev pub is_estimate_at : NodeState → ℕ → Command → Bool
is_estimate_at s j c = option_map_or (λ v. is_same_command v c) (estimate_of (standing_at s j)) false

-- an instance that no fact names has no estimate
no_estimate : (s : NodeState) (i : ℕ) (c : Command) → row_of s.rows i ≡ None → is_estimate_at s i c ≡ false
no_estimate s i c h = rw h refl

-- beside an instance that no fact names, all open instances count
beside_all : (s : NodeState) (i : ℕ) (c : Command) (js : List ℕ) → row_of s.rows i ≡ None → list_any (λ j. not (eqb j i) && is_estimate_at s j c) js ≡ list_any (λ j. is_estimate_at s j c) js
beside_all s i c [] h = refl
beside_all s i c (j ∷ js) h = by (eqb j i) refl (beside_all s i c js h)
  where
    by : (b : Bool) → eqb j i ≡ b → list_any (λ k. not (eqb k i) && is_estimate_at s k c) js ≡ list_any (λ k. is_estimate_at s k c) js → ((not b && is_estimate_at s j c) || list_any (λ k. not (eqb k i) && is_estimate_at s k c) js) ≡ (is_estimate_at s j c || list_any (λ k. is_estimate_at s k c) js)
    by true e more = let none : is_estimate_at s j c ≡ false = ap (λ k. is_estimate_at s k c) (eqb-true _ _ e) ∙ no_estimate s i c h in rw none more
    by false e more = ap (λ b. is_estimate_at s j c || b) more

-- the pool has the same command for each instance that no fact names
pub free_for_each : (s : NodeState) (i j : ℕ) → row_of s.rows i ≡ None → row_of s.rows j ≡ None → free_command s i ≡ free_command s j
unfolding free_command
free_for_each s i j h k = find_same (λ c. not (is_estimate_beside s i c)) (λ c. not (is_estimate_beside s j c)) s.pool (λ c. ap not (beside_all s i c (open_instances s) h ∙ sym (beside_all s j c (open_instances s) k)))

-- the pool has no command for an instance that no fact names
abbrev pub IsSpent : NodeState → Type 0
IsSpent s = (i : ℕ) → row_of s.rows i ≡ None → free_command s i ≡ None

-- a step knows it
pub spent_by : (s : NodeState) → steps.IsSpent s.rows s.pool → IsSpent s
unfolding open_instances
spent_by s h i n = sym (first_free_is s i) ∙ h.none i n

pub spent_for : (s : NodeState) → IsSpent s → steps.IsSpent s.rows s.pool
unfolding open_instances
spent_for s h = record { none = λ i n. first_free_is s i ∙ h i n }

-- what the search for a command gives is the pool's for the instance
pub free_found : (s : NodeState) (is : List ℕ) (i : ℕ) (x : Option Command) → is ≡ open_instances s → x ≡ first_free s.rows is i s.pool → free_command s i ≡ x
free_found s is i x o f = sym (first_free_is s i) ∙ ap (λ xs. first_free s.rows xs i s.pool) (sym o) ∙ sym f

-- a search in vain: there is none for the others
pub spent : (s : NodeState) (is : List ℕ) (i : ℕ) → is ≡ open_instances s → None ≡ first_free s.rows is i s.pool → row_of s.rows i ≡ None → IsSpent s
spent s is i o f h j k = free_for_each s j i k h ∙ free_found s is i None o f

-- nothing is due for an instance by its row
pub due_stops : (s : NodeState) (i : ℕ) (r : Row) (t : Tally) (d : Standing) → row_of s.rows i ≡ Some r → t ≡ r.tally → d ≡ r.standing → None ≡ due_of_row s i t d → due_at s i ≡ None
due_stops s i r t d h e f n = rw h (sym (n ∙ ap (λ x. due_of_row s i x d) e ∙ ap (λ x. due_of_row s i r.tally x) f))

-- nor where no fact names it
pub due_unnamed : (s : NodeState) (i : ℕ) → row_of s.rows i ≡ None → free_command s i ≡ None → due_at s i ≡ None
due_unnamed s i h n = rw (h, n) refl

-- where a command was found for it, it begins
pub due_begins : (s : NodeState) (is : List ℕ) (i : ℕ) (v : Command) → is ≡ open_instances s → row_of s.rows i ≡ None → Some v ≡ first_free s.rows is i s.pool → due_at s i ≡ Some (Begin i)
due_begins s is i v o h f = let free : free_command s i ≡ Some v = free_found s is i (Some v) o f in rw (h, free) refl

-- nothing is due where nobody has answered and nobody is suspected
pub not_due : (s : NodeState) (i : ℕ) (t : Tally) (o : OpenAt) → length t.estimates ≡ 0 → t.acks ≡ 0 → t.nacks ≡ 0 → s.suspects ≡ 0 → due_of_row s i t (Open o) ≡ None
not_due s i t o e a n u = by (eqb (coordinator_of o.round s.nodes) s.node) o.proposal
  where
    by : (b : Bool) (p : Option Command) → (if b then due_of_coordinator s i t o.round p else due_of_participant s i o.round) ≡ None
    by true None =
        let few : nat_le (majority_of s.nodes) (length t.estimates) ≡ false = rw e (lt-leb _ _ (omega arith)) in
        rw few refl
    by true (Some v) =
        let acks : is_majority s t.acks ≡ false = empty_lacks s.nodes t.acks a in
        let all : is_majority s (joined t.acks t.nacks) ≡ false = empty_lacks s.nodes (joined t.acks t.nacks) (joined_empty t.acks t.nacks n ∙ a) in
        rw (acks, all) refl
    by false p =
        let out : has_member s.suspects (coordinator_of o.round s.nodes) ≡ false = rw u (empty_has (coordinator_of o.round s.nodes)) in
        rw out refl
