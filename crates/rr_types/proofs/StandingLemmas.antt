-- A fact that fits is of the instance's present round, if it is an Adopt.
use Rattle.std.proofs.Common.{◌≡◌, refl, ℕ, Bool, true, false, ◌&&◌, ◌==◌, Option}
use Rattle.std.proofs.lemmas.Bool.{false≢true, eqb-true}
use Rattle.rr_types.specs.declared.fact.Fact.{Fact}
use Rattle.rr_types.specs.declared.fact.Fact.TheVariants.{Enter, Propose, Adopt, Decide}
use Rattle.rr_types.specs.declared.promise.Standing.{Standing}
use Rattle.rr_types.specs.Standings.{fits, is_undecided, round_of, IsInRound}

and_left : (a b : Bool) → (a && b) ≡ true → a ≡ true
and_left true b h = refl
and_left false b h = absurd (false≢true h)

and_right : (a b : Bool) → (a && b) ≡ true → b ≡ true
and_right true b h = h
and_right false b h = absurd (false≢true h)

-- a fact that fits is of the present round, if it is an Adopt
pub fits_in_round : (n p : ℕ) (st : Option Standing) (f : Fact) → fits n p st f ≡ true → IsInRound st f
fits_in_round n p st (Enter i e) h = tt
fits_in_round n p st (Propose i r v) h = tt
fits_in_round n p st (Adopt i r v) h = eqb-true _ _ (and_right _ _ (and_left (is_undecided st && round_of st == r) _ h))
fits_in_round n p st (Decide i v) h = tt
