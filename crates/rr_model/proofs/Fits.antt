-- Facts that fit: their parts fit, and what they have decided stays decided.
use Rattle.std.proofs.Common.{◌≡◌, ℕ, Bool, true, false, ◌==◌, if◌then◌else◌, List, [], ◌∷◌, ◌++◌, Option, None, Some, refl, ap, sym, ◌∙◌, subst, eqb-true}
use Rattle.std.proofs.lemmas.Bool.{false≢true, and_parts, and_from}
use Rattle.std.proofs.lemmas.Option.{none-some}
use Rattle.rr_types.specs.declared.command.Command.{Command}
use Rattle.rr_types.specs.declared.fact.Fact.{Fact}
use Rattle.rr_types.specs.declared.fact.Fact.TheVariants.{Enter, Propose, Adopt, Decide}
use Rattle.rr_types.specs.declared.promise.Entry.{Entry}
use Rattle.rr_types.specs.declared.promise.Standing.{Standing}
use Rattle.rr_types.specs.declared.promise.Standing.TheVariants.{Decided, Open}
use Rattle.rr_types.specs.Facts.{instance_of, after_fact, standing_of, decision_of}
use Rattle.rr_types.specs.Standings.{standing_from, fits}
use Rattle.rr_types.specs.Promises.{standing_in, take_on, take_on_all, promise_of, all_fit}
use Rattle.rr_model.specs.World.{decided_prefix}
use Rattle.rr_model.proofs.Histories.{standing_from-append}
use Rattle.rr_model.proofs.Promised.{standing_in-take_on, standing_in-promise_of}
use Rattle.rr_model.proofs.Prefixes.{Begins, prefix_follows}

-- a promise takes on one list of facts, and then another
pub take_both : (es : List Entry) (xs ys : List Fact) → take_on_all (take_on_all es xs) ys ≡ take_on_all es (xs ++ ys)
take_both es [] ys = refl
take_both es (x ∷ xs) ys = take_both (take_on es x) xs ys

-- facts fit together where the later ones fit the promise of the first
pub fit_both : (n p : ℕ) (es : List Entry) (xs ys : List Fact) → all_fit n p es xs ≡ true → all_fit n p (take_on_all es xs) ys ≡ true → all_fit n p es (xs ++ ys) ≡ true
fit_both n p es [] ys a b = b
fit_both n p es (x ∷ xs) ys a b =
    let parts : (fits n p (standing_in es (instance_of x)) x ≡ true) × (all_fit n p (take_on es x) xs ≡ true) = and_parts _ _ a in
    and_from _ _ parts.0 (fit_both n p (take_on es x) xs ys parts.1 b)

-- where all fit, the first ones fit
pub fit_first : (n p : ℕ) (es : List Entry) (xs ys : List Fact) → all_fit n p es (xs ++ ys) ≡ true → all_fit n p es xs ≡ true
fit_first n p es [] ys a = refl
fit_first n p es (x ∷ xs) ys a =
    let parts : (fits n p (standing_in es (instance_of x)) x ≡ true) × (all_fit n p (take_on es x) (xs ++ ys) ≡ true) = and_parts _ _ a in
    and_from _ _ parts.0 (fit_first n p (take_on es x) xs ys parts.1)

-- and the later ones behind them
pub fit_later : (n p : ℕ) (es : List Entry) (xs ys : List Fact) → all_fit n p es (xs ++ ys) ≡ true → all_fit n p (take_on_all es xs) ys ≡ true
fit_later n p es [] ys a = a
fit_later n p es (x ∷ xs) ys a =
    let parts : (fits n p (standing_in es (instance_of x)) x ≡ true) × (all_fit n p (take_on es x) (xs ++ ys) ≡ true) = and_parts _ _ a in
    fit_later n p (take_on es x) xs ys parts.1

-- no fact fits behind a decision
decided_unfit : (n p : ℕ) (s : Option Standing) (f : Fact) (v : Command) → decision_of s ≡ Some v → fits n p s f ≡ true → ⊥
decided_unfit n p None f v d fit = none-some v d
decided_unfit n p (Some (Open o)) f v d fit = none-some v d
decided_unfit n p (Some (Decided w)) (Enter i e) v d fit = false≢true fit
decided_unfit n p (Some (Decided w)) (Propose i r u) v d fit = false≢true fit
decided_unfit n p (Some (Decided w)) (Adopt i r u) v d fit = false≢true fit
decided_unfit n p (Some (Decided w)) (Decide i u) v d fit = false≢true fit

still_decided : (n p i : ℕ) (v : Command) (es : List Entry) (f : Fact) (s : Option Standing) → standing_in es i ≡ s → decision_of s ≡ Some v → fits n p (standing_in es (instance_of f)) f ≡ true → (b : Bool) → (instance_of f == i) ≡ b → decision_of (if b then after_fact s f else s) ≡ Some v
still_decided n p i v es f s e d fit true x = absurd (decided_unfit n p s f v d (subst (λ z. fits n p z f ≡ true) (ap (standing_in es) (eqb-true _ _ x) ∙ e) fit))
still_decided n p i v es f s e d fit false x = d

decided_from_then_on : (n p i : ℕ) (v : Command) (es : List Entry) (facts : List Fact) (s : Option Standing) → standing_in es i ≡ s → decision_of s ≡ Some v → all_fit n p es facts ≡ true → decision_of (standing_from s i facts) ≡ Some v
decided_from_then_on n p i v es [] s e d fit = d
decided_from_then_on n p i v es (f ∷ fs) s e d fit =
    let parts : (fits n p (standing_in es (instance_of f)) f ≡ true) × (all_fit n p (take_on es f) fs ≡ true) = and_parts _ _ fit in
    decided_from_then_on n p i v (take_on es f) fs (if instance_of f == i then after_fact s f else s)
    (standing_in-take_on es f i ∙ ap (λ z. if instance_of f == i then after_fact z f else z) e)
    (still_decided n p i v es f s e d parts.0 (instance_of f == i) refl)
    parts.1

-- the decided prefix of facts that fit begins with that of the first of them
pub fitting_prefix : (n p : ℕ) (a b : List Fact) → all_fit n p [] (a ++ b) ≡ true → Begins (decided_prefix a) (decided_prefix (a ++ b))
fitting_prefix n p a b fit = prefix_follows a b (λ i v d. subst (λ z. decision_of z ≡ Some v) (sym (standing_from-append None i a b))
    (decided_from_then_on n p i v (promise_of a) b (standing_of i a) (standing_in-promise_of a i) d (fit_later n p [] a b fit)))
