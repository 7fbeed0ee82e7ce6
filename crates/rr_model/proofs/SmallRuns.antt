-- The small runs of one node are runs, and each fact that an example forbids is unlawful.
use Rattle.std.proofs.Common.{◌≡◌, ℕ, ◌<◌, ◌≤◌, inl, inr, zero, suc, true, List, [], ◌∷◌, ◌++◌, get_or, refl, ap, sym, arith, ◌==◌, eq-eqb}
use Rattle.rr_types.specs.declared.command.Command.{Command}
use Rattle.rr_types.specs.declared.message.Body.{Body}
use Rattle.rr_types.specs.declared.message.Body.TheVariants.{Estimate, Proposal, Ack, Decision}
use Rattle.rr_types.specs.declared.message.Message.{Message}
use Rattle.rr_model.specs.Lawful.{Says, HasMajority, HasEstimate, IsOfLargestStamp, count_below}
use Rattle.rr_types.specs.declared.fact.Fact.TheVariants.{Propose, Adopt}
use Rattle.rr_model.specs.Lawful.{Submitted}
use Rattle.rr_model.proofs.Permitted.{IsNamed, MayDecide, occurs_named, lawful_permitted}
use Rattle.rr_model.specs.World.{nothing_heard, IsRun}
use Rattle.rr_model.proofs.Listed.{counts_no_fewer}
use Rattle.rr_model.specs.Examples.{claim_a_x, first_estimate, to_itself, decides_and_acknowledges, stages_and_crashes, goes_on, IsProposeOfAnotherUnlawful, IsAdoptBelowTheStampUnlawful, one_ack_twice, has_proposed, IsDecideWithoutMajorityUnlawful, IsEnterWithMadeUpCommandUnlawful}

only_node : (P : ℕ → Type 0) → P 0 → (q : ℕ) → q < 1 → P q
only_node P h zero l = h
only_node P h (suc q) l = absurd (omega arith)

-- one node is a majority of one
alone : (P : ℕ → Type 0) → P 0 → HasMajority 1 P
alone P h = record { members = λ q. true; enough = omega arith; each = λ q l m. only_node P h q l }

abbrev three_heard : List Message
three_heard = to_itself (Estimate 0 first_estimate) ∷ to_itself (Proposal 0 1 claim_a_x) ∷ to_itself (Ack 0 1) ∷ []

first_is_largest : IsOfLargestStamp 1 0 1 (to_itself (Estimate 0 first_estimate) ∷ []) claim_a_x
first_is_largest = record {
  stamp = 0;
  sender = 0;
  said = (0, (0, omega arith, refl));
  majority = record {
    members = λ q. true;
    enough = omega arith;
    each = λ q l m. only_node (HasEstimate (to_itself (Estimate 0 first_estimate) ∷ []) 0 1 0) (record { stamp = 0; command = claim_a_x; said = (0, (0, omega arith, refl)); older = omega arith }) q l;
  };
  exists = omega arith;
  member = refl;
}

pub it_runs : IsRun 1 decides_and_acknowledges
it_runs = (
  (omega arith, refl, omega arith),
  (
    (omega arith, refl),
    (
      ((omega arith, refl), (omega arith, refl, Submitted (0, omega arith, refl))),
      (
        ((omega arith, refl), omega arith),
        (
          ((omega arith, refl), refl, (0, omega arith, refl), λ c e. absurd (cc)),
          (
            ((omega arith, refl), (0, omega arith, refl), refl),
            (
              ((omega arith, refl), (refl, refl, refl, first_is_largest)),
              (
                ((omega arith, refl), omega arith),
                (
                  ((omega arith, refl), refl, (1, omega arith, refl), λ c e. absurd (cc)),
                  (
                    ((omega arith, refl), (1, omega arith, refl), refl),
                    (
                      ((omega arith, refl), (refl, omega arith, (0, (1, omega arith, refl)))),
                      (
                        ((omega arith, refl), omega arith),
                        (
                          ((omega arith, refl), refl, (claim_a_x, (2, omega arith, refl)), λ c e. absurd (cc)),
                          (
                            ((omega arith, refl), (2, omega arith, refl), refl),
                            (
                              ((omega arith, refl), inr (refl, alone (λ q. Says three_heard q (Ack 0 1)) (0, (2, omega arith, refl)))),
                              (
                                ((omega arith, refl), omega arith),
                                (
                                  ((omega arith, refl), refl),
                                  (
                                    (omega arith, refl),
                                    ((omega arith, refl, omega arith), tt),
                                  ),
                                ),
                              ),
                            ),
                          ),
                        ),
                      ),
                    ),
                  ),
                ),
              ),
            ),
          ),
        ),
      ),
    ),
  ),
)

pub it_goes_on : IsRun 1 (stages_and_crashes ++ goes_on)
it_goes_on = (
  (omega arith, refl, omega arith),
  (
    (omega arith, refl),
    (
      ((omega arith, refl), (omega arith, refl, Submitted (0, omega arith, refl))),
      (
        (omega arith, refl),
        (
          (omega arith, refl, omega arith),
          (
            (omega arith, refl),
            (
              ((omega arith, refl), (omega arith, refl, Submitted (0, omega arith, refl))),
              (((omega arith, refl), omega arith), tt),
            ),
          ),
        ),
      ),
    ),
  ),
)

pub another_may_not_propose : IsProposeOfAnotherUnlawful
another_may_not_propose n p i r v s h other l = other (lawful_permitted n p s h (Propose i r v) l).1

pub stamps_do_not_fall : IsAdoptBelowTheStampUnlawful
stamps_do_not_fall n p i r v s h low l = omega (arith, low, (lawful_permitted n p s h (Adopt i r v) l).1)

heard_nothing : (v : Command) → IsNamed nothing_heard v → ⊥
heard_nothing v (inl m) = let l : (m.1).0 < 0 = (m.1).1 in omega arith
heard_nothing v (inr c) = let l : c.0 < 0 = c.1 in omega arith

pub made_up_may_not_enter : IsEnterWithMadeUpCommandUnlawful
made_up_may_not_enter n p i e l = heard_nothing e.command (occurs_named nothing_heard e.command l.2)

said_by_node_0 : (q : ℕ) (b : Body) → Says one_ack_twice.messages q b → (0 ≡ q) × (Ack 0 1 ≡ b)
said_by_node_0 q b s = at_index (s.1).0 (s.1).1 (s.1).2
  where
    at_index : (k : ℕ) → k < 2 → get_or one_ack_twice.messages k (record { from = q; to = s.0; body = b }) ≡ record { from = q; to = s.0; body = b } → (0 ≡ q) × (Ack 0 1 ≡ b)
    at_index zero l e = (ap (λ (m : Message). m.from) e, ap (λ (m : Message). m.body) e)
    at_index (suc zero) l e = (ap (λ (m : Message). m.from) e, ap (λ (m : Message). m.body) e)
    at_index (suc (suc k)) l e = absurd (omega arith)

few : HasMajority 3 (λ q. Says one_ack_twice.messages q (Ack 0 1)) → ⊥
few h =
    let most : count_below h.members 3 ≤ count_below (λ q. q == 0) 3 = counts_no_fewer h.members (λ q. q == 0) 3 (λ q l m. eq-eqb q 0 (sym (said_by_node_0 q (Ack 0 1) (h.each q l m)).0)) in
    let enough : 2 ≤ count_below h.members 3 = h.enough in
    two_of_one (count_below h.members 3) most enough
  where
    two_of_one : (k : ℕ) → k ≤ 1 → 2 ≤ k → ⊥
    two_of_one k a b = omega arith

may_not_decide : MayDecide 3 has_proposed one_ack_twice 0 claim_a_x → ⊥
may_not_decide (inl d) = let e : Ack 0 1 ≡ Decision 0 claim_a_x = (said_by_node_0 d.0 (Decision 0 claim_a_x) d.1).1 in cc
may_not_decide (inr d) = few d.1

pub no_majority : IsDecideWithoutMajorityUnlawful
no_majority l = may_not_decide l
