-- The small runs of three nodes are runs and end as they should, and what the examples of three nodes forbid is unlawful.
use Rattle.std.proofs.Common.{◌≡◌, ℕ, ◌<◌, ◌≤◌, ◌⊎◌, inl, inr, Bool, true, false, ◌==◌, eq-eqb, List, [], ◌∷◌, ◌++◌, Some, refl, ap, sym, arith}
use Rattle.std.proofs.lemmas.Bool.{false≢true}
use Rattle.rr_types.specs.declared.command.Command.{Command}
use Rattle.rr_types.specs.declared.message.Body.{Body}
use Rattle.rr_types.specs.declared.message.Body.TheVariants.{Estimate, Ack, Decision}
use Rattle.rr_types.specs.declared.message.Message.{Message}
use Rattle.rr_types.specs.Rounds.{Estimated}
use Rattle.rr_model.specs.Lawful.{Says, HasMajority, HasEstimate, IsOfLargestStamp, count_below}
use Rattle.rr_model.specs.World.{IsRun, end_of}
use Rattle.rr_model.specs.Sound.{IsChosen, IsDecidedList}
use Rattle.rr_model.specs.Examples.{claim_a_x, first_estimate}
use Rattle.rr_model.specs.ClusterExamples.{claim_a_y, round_stamp, from_to, first_round, two_rounds, IsDecideUnheardUnlawful, IsProposeOfAnotherCommandUnlawful, decides_by_the_others, crashes_before_it_tells, enters_anew, tells_it_now, IsLostEstimateUnlawful, decides_instance_1, decides_out_of_order, decides_twice}
use Rattle.rr_model.proofs.Listed.{counts_no_fewer, says_cases}
use Rattle.rr_model.proofs.Searches.{found, find_chosen, run_by_search, decided_by_search, says_any, few_acks}

pub two_rounds_run : IsRun 3 two_rounds
two_rounds_run = run_by_search 3 two_rounds refl

pub first_round_chooses : IsChosen 3 (end_of first_round).wire 0 claim_a_x
first_round_chooses = found (find_chosen 3 (end_of first_round).wire 0 claim_a_x) refl

pub two_rounds_decide : IsDecidedList 3 (end_of two_rounds).wire (claim_a_x ∷ [])
two_rounds_decide = decided_by_search 3 (end_of two_rounds).wire (claim_a_x ∷ []) refl refl

-- whether a body says that something is decided
abbrev is_decision : Body → Bool
is_decision (Decision i v) = true
is_decision b = false

-- what node 1 hears in the first round
abbrev heard_in_first_round : List Message
heard_in_first_round = ((end_of first_round).heard 1).messages

no_reason_to_decide : ((q : ℕ) × Says heard_in_first_round q (Decision 0 claim_a_x)) ⊎ ((Some claim_a_x ≡ Some claim_a_x) × HasMajority 3 (λ q. Says heard_in_first_round q (Ack 0 1))) → ⊥
no_reason_to_decide (inl d) = false≢true (says_any is_decision heard_in_first_round d.0 (Decision 0 claim_a_x) refl d.1)
no_reason_to_decide (inr d) = few_acks 3 heard_in_first_round 0 1 (omega arith) d.1

pub unheard_may_not_decide : IsDecideUnheardUnlawful
unheard_may_not_decide l = no_reason_to_decide l.1

-- the estimates that node 2 hears for the second round
abbrev two_estimates : List Message
two_estimates = from_to 0 2 (Estimate 0 (round_stamp 2 1 claim_a_x)) ∷ from_to 2 2 (Estimate 0 (round_stamp 2 0 claim_a_y)) ∷ []

one_of_two : (m k : Message) (q : ℕ) (b : Body) → Says (m ∷ k ∷ []) q b → ((m.from ≡ q) × (m.body ≡ b)) ⊎ ((k.from ≡ q) × (k.body ≡ b))
one_of_two m k q b s = elim (says_cases m (k ∷ []) q b s) [
  | inl x ↦ inl x
  | inr x ↦ elim (says_cases k [] q b x) [
    | inl y ↦ inr y
    | inr y ↦ let l : (y.1).0 < 0 = (y.1).1 in absurd (omega arith)
  ]
]

-- the estimate in a body
abbrev estimated_in : Body → Estimated
estimated_in (Estimate i e) = e
estimated_in b = first_estimate

not_both_clients : ◌≡◌ {A = ℕ} 1 2 → ⊥
not_both_clients e = omega arith

stamp_of_other : (q t : ℕ) → Says two_estimates q (Estimate 0 (round_stamp 2 t claim_a_y)) → t ≡ 0
stamp_of_other q t s = elim (one_of_two (from_to 0 2 (Estimate 0 (round_stamp 2 1 claim_a_x))) (from_to 2 2 (Estimate 0 (round_stamp 2 0 claim_a_y))) q (Estimate 0 (round_stamp 2 t claim_a_y)) s) [
  | inl x ↦ absurd (not_both_clients (ap (λ (b : Body). (estimated_in b).command.request.client) x.1))
  | inr x ↦ let e : 0 ≡ t = ap (λ b. (estimated_in b).stamp) x.1 in sym e
]

of_stamp_0 : (q t : ℕ) (v : Command) → t ≤ 0 → Says two_estimates q (Estimate 0 (round_stamp 2 t v)) → q ≡ 2
of_stamp_0 q t v l s = elim (one_of_two (from_to 0 2 (Estimate 0 (round_stamp 2 1 claim_a_x))) (from_to 2 2 (Estimate 0 (round_stamp 2 0 claim_a_y))) q (Estimate 0 (round_stamp 2 t v)) s) [
  | inl x ↦ let e : 1 ≡ t = ap (λ b. (estimated_in b).stamp) x.1 in absurd (omega arith)
  | inr x ↦ sym x.0
]

low_enough : (a b : ℕ) → a ≤ b → b ≡ 0 → a ≤ 0
low_enough a b l e = omega arith

two_of_one : (k : ℕ) → k ≤ 1 → 2 ≤ k → ⊥
two_of_one k a b = omega arith

other_is_not_largest : IsOfLargestStamp 3 0 2 two_estimates claim_a_y → ⊥
other_is_not_largest b =
    let most : count_below b.majority.members 3 ≤ count_below (λ q. q == 2) 3 = counts_no_fewer b.majority.members (λ q. q == 2) 3 (λ q l m. only_2 q (b.majority.each q l m)) in
    two_of_one (count_below b.majority.members 3) most b.majority.enough
  where
    only_2 : (q : ℕ) → HasEstimate two_estimates 0 2 b.stamp q → (q == 2) ≡ true
    only_2 q h = eq-eqb q 2 (of_stamp_0 q h.stamp h.command (low_enough h.stamp b.stamp h.older (stamp_of_other b.sender b.stamp b.said)) h.said)

pub another_may_not_be_proposed : IsProposeOfAnotherCommandUnlawful
another_may_not_be_proposed l = other_is_not_largest l.3

pub others_run : IsRun 3 decides_by_the_others
others_run = run_by_search 3 decides_by_the_others refl

pub lost_run : IsRun 3 (crashes_before_it_tells 0 ++ enters_anew)
lost_run = run_by_search 3 (crashes_before_it_tells 0 ++ enters_anew) refl

pub kept_run : IsRun 3 (crashes_before_it_tells 1 ++ tells_it_now)
kept_run = run_by_search 3 (crashes_before_it_tells 1 ++ tells_it_now) refl

pub lost_estimate_may_not_be_sent : IsLostEstimateUnlawful
lost_estimate_may_not_be_sent l = let k : (l.2).0 < 0 = (l.2).1 in omega arith

pub out_of_order_run : IsRun 3 decides_out_of_order
out_of_order_run = run_by_search 3 decides_out_of_order refl

pub instance_1_chosen : IsChosen 3 (end_of decides_instance_1).wire 1 claim_a_y
instance_1_chosen = found (find_chosen 3 (end_of decides_instance_1).wire 1 claim_a_y) refl

pub empty_then : IsDecidedList 3 (end_of decides_instance_1).wire []
empty_then = decided_by_search 3 (end_of decides_instance_1).wire [] refl refl

pub both_at_the_end : IsDecidedList 3 (end_of decides_out_of_order).wire (claim_a_x ∷ claim_a_y ∷ [])
both_at_the_end = decided_by_search 3 (end_of decides_out_of_order).wire (claim_a_x ∷ claim_a_y ∷ []) refl refl

pub twice_run : IsRun 3 decides_twice
twice_run = run_by_search 3 decides_twice refl

pub twice_in_the_list : IsDecidedList 3 (end_of decides_twice).wire (claim_a_x ∷ claim_a_x ∷ [])
twice_in_the_list = decided_by_search 3 (end_of decides_twice).wire (claim_a_x ∷ claim_a_x ∷ []) refl refl
