-- A node of three that is asked eight times has facts of eight instances. One that no decision outweighs counts, and keeps a
-- disk from being made anew.
use Rattle.std.proofs.Common.{◌≡◌, ℕ, ◌<◌, zero, suc, nat_lt, [], ◌∷◌, Contains, refl, sym, subst, arith, ltb-true}
use Rattle.std.proofs.lemmas.Option.{none-some}
use Rattle.rr_types.specs.declared.fact.Fact.{Fact}
use Rattle.rr_types.specs.declared.fact.Fact.TheVariants.{Enter}
use Rattle.rr_types.specs.Facts.{instance_of}
use Rattle.rr_types.specs.Nodes.{joined}
use Rattle.rr_model.specs.ClusterExamples.{round_stamp}
use Rattle.rr_model.specs.Deeds.{IsHistory, OpensWell, deed_of}
use Rattle.rr_model.specs.LostDisks.{AreBelow, claim_number, asks, asked_alone, all_facts, lives_after, PromisesNothingFrom, HasFactsOfEight, DoesOneLeftOutCount}
use Rattle.rr_model.specs.RenewedDisks.{Does, AreTurns, lives_then, renewed_in_time, IsRenewedTooEarly}
use Rattle.rr_model.specs.declared.deed.What.TheVariants.{Down, Up}
use Rattle.rr_model.specs.NodeState.{open_instances}
use Rattle.rr_model.specs.NodeParts.{owe, pool_add, stage, free_command, enter, restate, conclude, propose}
use Rattle.rr_model.specs.NodeDue.{due, carry_out, settle_within, settle}
use Rattle.rr_model.specs.NodeStep.{wait_for, submitted, taken_in, node_step, refusal_of, started}

pub asked_is_one : IsHistory 3 asked_alone
unfolding open_instances joined owe pool_add stage free_command enter restate conclude propose due carry_out settle_within settle wait_for submitted taken_in node_step refusal_of started
asked_is_one = ((omega arith, refl), ((_, refl, (tt, refl)), ((_, refl, (tt, refl)), ((_, refl, (tt, refl)), ((_, refl, (tt, refl)), ((_, refl, (tt, refl)), ((_, refl, (tt, refl)), ((_, refl, (tt, refl)), ((_, refl, (tt, refl)), tt)))))))))

pub asked_opens_well : OpensWell 3 asked_alone
asked_opens_well = ((0, omega arith, refl, refl), (tt, (tt, (tt, (tt, (tt, (tt, (tt, (tt, tt)))))))))

-- what it staged
its_facts : all_facts ((lives_after 3 asked_alone).life 2) ≡ Enter 0 (round_stamp 1 0 (claim_number 1)) ∷ Enter 1 (round_stamp 1 0 (claim_number 2)) ∷ Enter 2 (round_stamp 1 0 (claim_number 3)) ∷ Enter 3 (round_stamp 1 0 (claim_number 4)) ∷ Enter 4 (round_stamp 1 0 (claim_number 5)) ∷ Enter 5 (round_stamp 1 0 (claim_number 6)) ∷ Enter 6 (round_stamp 1 0 (claim_number 7)) ∷ Enter 7 (round_stamp 1 0 (claim_number 8)) ∷ []
unfolding open_instances joined owe pool_add stage free_command enter restate conclude propose due carry_out settle_within settle wait_for submitted taken_in node_step started
its_facts = refl

pub has_facts_of_eight : HasFactsOfEight
has_facts_of_eight = (
  record { members = λ q. nat_lt q 2; enough = omega arith; each = λ q l m. at q (ltb-true q 2 m) },
  λ below. let l : 7 < 7 = below (Enter 7 (round_stamp 1 0 (claim_number 8))) (subst (λ z. Contains z (Enter 7 (round_stamp 1 0 (claim_number 8)))) (sym its_facts) (7, omega arith, refl)) in omega arith,
)
  where
    at : (q : ℕ) → q < 2 → PromisesNothingFrom 0 ((lives_after 3 asked_alone).life q)
    at zero m = ([], 0, (0, omega arith, refl, refl), λ i l. refl)
    at (suc zero) m = ([], 0, (0, omega arith, refl, refl), λ i l. refl)
    at (suc (suc q)) m = absurd (omega arith)

pub one_left_out : DoesOneLeftOutCount
one_left_out alike = none-some _ (sym (alike.standings 1))

nothing_yet : all_facts ((lives_then 3 (Does (deed_of 2 (Up [] 0)) ∷ Does (deed_of 2 Down) ∷ [])).life 2) ≡ []
unfolding open_instances owe restate started
nothing_yet = refl

no_fact : (f : Fact) → Contains [] f → instance_of f < 0
no_fact f c = absurd (let l : c.0 < 0 = c.1 in omega arith)

pub is_renewed_in_time : AreTurns 3 renewed_in_time
is_renewed_in_time = (
  ((omega arith, refl), (0, omega arith, refl, refl)),
  (((_, refl, tt), tt), ((refl, (λ i v e. absurd (none-some v e)), subst (AreBelow 0) (sym nothing_yet) no_fact), (((omega arith, refl), (0, omega arith, refl, refl)), tt))),
)

one_fact : all_facts ((lives_then 3 (Does (deed_of 2 (Up [] 0)) ∷ Does (asks 1) ∷ Does (deed_of 2 Down) ∷ [])).life 2) ≡ Enter 0 (round_stamp 1 0 (claim_number 1)) ∷ []
unfolding open_instances joined owe pool_add stage free_command enter restate conclude propose due carry_out settle_within settle wait_for submitted taken_in node_step started
one_fact = refl

pub is_renewed_too_early : IsRenewedTooEarly
is_renewed_too_early h =
    let below : AreBelow 0 (Enter 0 (round_stamp 1 0 (claim_number 1)) ∷ []) = subst (AreBelow 0) one_fact h.1.1.1.0.2 in
    let l : 0 < 0 = below (Enter 0 (round_stamp 1 0 (claim_number 1))) (0, omega arith, refl) in
    omega arith
