-- The tests for equal facts pass exactly for equal ones.
use Rattle.std.proofs.Common.{◌≡◌, ◌<◌, ◌≤◌, ◌+◌, ℕ, arith, Bool, true, false, ◌&&◌, ◌==◌, eqb, ap, sym, ◌∙◌, refl, List, [], ◌∷◌, length, get_or, drop, IsTrue}
use Rattle.std.proofs.lemmas.List.{drop_more, drop_all}
use Rattle.std.proofs.lemmas.Bool.{eqb-true, eq-eqb, false≢true}
use Rattle.std.proofs.lemmas.Grind.{common_steps}
use Rattle.rr_types.specs.declared.command.RequestNo.{RequestNo}
use Rattle.rr_types.specs.declared.command.Command.{Command}
use Rattle.rr_types.specs.declared.fact.Fact.{Fact}
use Rattle.rr_types.specs.declared.fact.Fact.TheVariants.{Enter, Propose, Adopt, Decide}
use Rattle.rr_types.specs.Registry.{is_same_request}
use Rattle.rr_types.specs.Commands.{is_same_command}
use Rattle.rr_types.specs.Rounds.{Estimated}
use Rattle.rr_model.proofs.SameCommands.{same_request, same_command, command_same as command_is_same}
use Rattle.rr_state.specs.Same.{is_same_estimate, is_same_fact, are_same_facts}

-- both of two tests pass
pub and_left : (a b : Bool) → (a && b) ≡ true → a ≡ true
and_left true b h = refl
and_left false b h = h

pub and_right : (a b : Bool) → (a && b) ≡ true → b ≡ true
and_right true b h = h
and_right false b h = absurd (false≢true h)

pub both : (a b : Bool) → a ≡ true → b ≡ true → (a && b) ≡ true
both a b h k = rw (h, k) refl

-- a number is itself
itself : (n : ℕ) → (n == n) ≡ true
itself n = eq-eqb n n refl

-- request numbers
pub request_is : (p q : RequestNo) → is_same_request p q ≡ true → p ≡ q
request_is p q h = same_request p q h

-- commands
pub command_is : (c d : Command) → is_same_command c d ≡ true → c ≡ d
command_is c d h = same_command c d h

pub command_same : (c : Command) → is_same_command c c ≡ true
command_same c = command_is_same c

-- estimates
estimate_is : (e f : Estimated) → is_same_estimate e f ≡ true → e ≡ f
estimate_is e f h =
    let numbers : (e.round == f.round && e.stamp == f.stamp) ≡ true = and_left (e.round == f.round && e.stamp == f.stamp) _ h in
    let r : e.round ≡ f.round = eqb-true _ _ (and_left _ _ numbers) in
    let s : e.stamp ≡ f.stamp = eqb-true _ _ (and_right _ _ numbers) in
    let c : e.command ≡ f.command = command_is _ _ (and_right _ _ h) in
    let make : ℕ → ℕ → Command → Estimated = (λ r s c. record { round = r; stamp = s; command = c }) in
    ap (λ (n : ℕ). make n e.stamp e.command) r ∙ ap (λ (n : ℕ). make f.round n e.command) s ∙ ap (λ (d : Command). make f.round f.stamp d) c

estimate_same : (e : Estimated) → is_same_estimate e e ≡ true
estimate_same e = both _ _ (both _ _ (itself e.round) (itself e.stamp)) (command_same e.command)

-- facts
fact_is : (f g : Fact) → is_same_fact f g ≡ true → f ≡ g
fact_is (Enter i e) (Enter j f) h = let a : i ≡ j = eqb-true _ _ (and_left _ _ h) in let b : e ≡ f = estimate_is e f (and_right _ _ h) in cc
fact_is (Enter i e) (Propose j q w) h = absurd (false≢true h)
fact_is (Enter i e) (Adopt j q w) h = absurd (false≢true h)
fact_is (Enter i e) (Decide j w) h = absurd (false≢true h)
fact_is (Propose i r v) (Enter j f) h = absurd (false≢true h)
fact_is (Propose i r v) (Propose j q w) h =
    let a : i ≡ j = eqb-true _ _ (and_left _ _ (and_left (i == j && r == q) _ h)) in
    let b : r ≡ q = eqb-true _ _ (and_right _ _ (and_left (i == j && r == q) _ h)) in
    let c : v ≡ w = command_is v w (and_right _ _ h) in cc
fact_is (Propose i r v) (Adopt j q w) h = absurd (false≢true h)
fact_is (Propose i r v) (Decide j w) h = absurd (false≢true h)
fact_is (Adopt i r v) (Enter j f) h = absurd (false≢true h)
fact_is (Adopt i r v) (Propose j q w) h = absurd (false≢true h)
fact_is (Adopt i r v) (Adopt j q w) h =
    let a : i ≡ j = eqb-true _ _ (and_left _ _ (and_left (i == j && r == q) _ h)) in
    let b : r ≡ q = eqb-true _ _ (and_right _ _ (and_left (i == j && r == q) _ h)) in
    let c : v ≡ w = command_is v w (and_right _ _ h) in cc
fact_is (Adopt i r v) (Decide j w) h = absurd (false≢true h)
fact_is (Decide i v) (Enter j f) h = absurd (false≢true h)
fact_is (Decide i v) (Propose j q w) h = absurd (false≢true h)
fact_is (Decide i v) (Adopt j q w) h = absurd (false≢true h)
fact_is (Decide i v) (Decide j w) h = let a : i ≡ j = eqb-true _ _ (and_left _ _ h) in let b : v ≡ w = command_is v w (and_right _ _ h) in cc

fact_same : (f : Fact) → is_same_fact f f ≡ true
fact_same (Enter i e) = both _ _ (itself i) (estimate_same e)
fact_same (Propose i r v) = both _ _ (both _ _ (itself i) (itself r)) (command_same v)
fact_same (Adopt i r v) = both _ _ (both _ _ (itself i) (itself r)) (command_same v)
fact_same (Decide i v) = both _ _ (itself i) (command_same v)

-- lists of facts
pub facts_are : (fs gs : List Fact) → are_same_facts fs gs ≡ true → fs ≡ gs
facts_are [] [] h = refl
facts_are [] (g ∷ gs) h = absurd (false≢true h)
facts_are (f ∷ fs) [] h = absurd (false≢true h)
facts_are (f ∷ fs) (g ∷ gs) h =
    let a : f ≡ g = fact_is f g (and_left _ _ h) in
    let b : fs ≡ gs = facts_are fs gs (and_right _ _ h) in cc

same_all : (fs : List Fact) → are_same_facts fs fs ≡ true
same_all [] = refl
same_all (f ∷ fs) = both _ _ (fact_same f) (same_all fs)

pub facts_are_same : (fs gs : List Fact) → fs ≡ gs → are_same_facts fs gs ≡ true
facts_are_same fs gs e = rw (sym e) (same_all fs)

-- one more pair of facts
pub same_more : (fs gs : List Fact) (k : ℕ) (f g : Fact) → k < length fs → k < length gs → f ≡ get_or fs k f → g ≡ get_or gs k g → are_same_facts (drop k fs) (drop k gs) ≡ (is_same_fact f g && are_same_facts (drop (k + 1) fs) (drop (k + 1) gs))
same_more fs gs k f g l m a b =
    let at : drop k fs ≡ f ∷ drop (k + 1) fs = drop_more fs k f l ∙ ap (λ (x : Fact). x ∷ drop (k + 1) fs) (sym a) in
    let to : drop k gs ≡ g ∷ drop (k + 1) gs = drop_more gs k g m ∙ ap (λ (x : Fact). x ∷ drop (k + 1) gs) (sym b) in
    rw (at, to) refl

-- lists of different lengths differ
pub same_lengths : (fs gs : List Fact) → are_same_facts fs gs ≡ true → length fs ≡ length gs
same_lengths fs gs h = ap (λ (l : List Fact). length l) (facts_are fs gs h)
