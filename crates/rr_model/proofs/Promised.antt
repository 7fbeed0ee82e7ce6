-- The promise of facts says where each instance stands, and lawful facts fit the promise of those before them.
use Rattle.std.proofs.Common.{◌≡◌, ℕ, Bool, true, false, ◌==◌, nat_lt, if◌then◌else◌, List, [], ◌∷◌, ◌++◌, Option, None, Some, is_none, refl, ap, sym, ◌∙◌, subst, append_assoc, eqb-true, eq-eqb, lt-ltb}
use Rattle.std.proofs.lemmas.Bool.{false≢true, and_from, eqb-false}
use Rattle.rr_types.specs.declared.fact.Fact.{Fact}
use Rattle.rr_types.specs.declared.fact.Fact.TheVariants.{Enter, Propose, Adopt, Decide}
use Rattle.rr_types.specs.declared.promise.Entry.{Entry}
use Rattle.rr_types.specs.declared.promise.Standing.{Standing}
use Rattle.rr_types.specs.declared.promise.Standing.TheVariants.{Decided, Open}
use Rattle.rr_types.specs.Commands.{is_same_command}
use Rattle.rr_types.specs.Rounds.{coordinator_of}
use Rattle.rr_types.specs.Facts.{instance_of, standing_of, after_fact}
use Rattle.rr_types.specs.Standings.{standing_from, fits}
use Rattle.rr_types.specs.Promises.{standing_in, set_entry, set_standing, take_on, take_on_all, promise_of, all_fit}
use Rattle.rr_model.specs.Lawful.{Heard}
use Rattle.rr_model.proofs.Permitted.{IsPermittedAt}
use Rattle.rr_model.proofs.Histories.{History, standing_push}
use Rattle.rr_model.proofs.SameCommands.{command_same}

-- the entries with one standing set, looked up
set_cases : (i : ℕ) (s : Standing) (e : Entry) (es : List Entry) (j : ℕ) (below same found : Bool) → nat_lt i e.instance ≡ below → (i == e.instance) ≡ same → (i == j) ≡ found → (standing_in (set_entry i s es) j ≡ (if found then Some s else standing_in es j)) → standing_in (if below then record { instance = i; standing = s } ∷ e ∷ es else (if same then record { instance = i; standing = s } ∷ es else e ∷ set_entry i s es)) j ≡ (if found then Some s else standing_in (e ∷ es) j)
set_cases i s e es j true same found b a f ih = ap (λ t. if t then Some s else standing_in (e ∷ es) j) f
set_cases i s e es j false true true b a f ih = ap (λ t. if t then Some s else standing_in es j) f
set_cases i s e es j false true false b a f ih =
    let x : i ≡ e.instance = eqb-true i e.instance a in
    let y : (e.instance == j) ≡ false = subst (λ z. (z == j) ≡ false) x f in
    ap (λ t. if t then Some s else standing_in es j) f ∙ sym (ap (λ t. if t then Some e.standing else standing_in es j) y)
set_cases i s e es j false false true b a f ih = behind (e.instance == j) refl
  where
    behind : (t : Bool) → (e.instance == j) ≡ t → (if e.instance == j then Some e.standing else standing_in (set_entry i s es) j) ≡ Some s
    behind true h = absurd (eqb-false i e.instance a (eqb-true i j f ∙ sym (eqb-true e.instance j h)))
    behind false h = ap (λ t. if t then Some e.standing else standing_in (set_entry i s es) j) h ∙ ih
set_cases i s e es j false false false b a f ih = ap (λ z. if e.instance == j then Some e.standing else z) ih

pub standing_in-set_entry : (i : ℕ) (s : Standing) (es : List Entry) (j : ℕ) → standing_in (set_entry i s es) j ≡ (if i == j then Some s else standing_in es j)
standing_in-set_entry i s [] j = refl
standing_in-set_entry i s (e ∷ es) j = set_cases i s e es j (nat_lt i e.instance) (i == e.instance) (i == j) refl refl refl (standing_in-set_entry i s es j)

-- a fact that leaves no standing found none
none_before : (s : Option Standing) (f : Fact) → after_fact s f ≡ None → s ≡ None
none_before None f e = refl
none_before (Some (Decided v)) (Enter i x) e = cc
none_before (Some (Open o)) (Enter i x) e = cc
none_before (Some (Decided v)) (Propose i r w) e = cc
none_before (Some (Open o)) (Propose i r w) e = cc
none_before (Some (Decided v)) (Adopt i r w) e = cc
none_before (Some (Open o)) (Adopt i r w) e = cc
none_before (Some (Decided v)) (Decide i w) e = cc
none_before (Some (Open o)) (Decide i w) e = cc

set_at : (es : List Entry) (i j : ℕ) (o : Option Standing) → (o ≡ None → standing_in es i ≡ None) → standing_in (set_standing i o es) j ≡ (if i == j then o else standing_in es j)
set_at es i j None h = unchanged (i == j) refl
  where
    unchanged : (t : Bool) → (i == j) ≡ t → standing_in es j ≡ (if t then None else standing_in es j)
    unchanged true e = subst (λ z. standing_in es z ≡ None) (eqb-true i j e) (h refl)
    unchanged false e = refl
set_at es i j (Some s) h = standing_in-set_entry i s es j

same_instance : (es : List Entry) (f : Fact) (i : ℕ) (t : Bool) → (instance_of f == i) ≡ t → (if t then after_fact (standing_in es (instance_of f)) f else standing_in es i) ≡ (if t then after_fact (standing_in es i) f else standing_in es i)
same_instance es f i true e = ap (λ z. after_fact (standing_in es z) f) (eqb-true (instance_of f) i e)
same_instance es f i false e = refl

-- a promise takes a fact on where its instance stands
pub standing_in-take_on : (es : List Entry) (f : Fact) (i : ℕ) → standing_in (take_on es f) i ≡ (if instance_of f == i then after_fact (standing_in es i) f else standing_in es i)
standing_in-take_on es f i =
    set_at es (instance_of f) i (after_fact (standing_in es (instance_of f)) f) (none_before (standing_in es (instance_of f)) f)
    ∙ same_instance es f i (instance_of f == i) refl

pub standing_in-take_on_all : (es : List Entry) (facts : List Fact) (i : ℕ) → standing_in (take_on_all es facts) i ≡ standing_from (standing_in es i) i facts
standing_in-take_on_all es [] i = refl
standing_in-take_on_all es (f ∷ facts) i = standing_in-take_on_all (take_on es f) facts i ∙ ap (λ s. standing_from s i facts) (standing_in-take_on es f i)

-- the promise of facts says where each instance stands
pub standing_in-promise_of : (facts : List Fact) (i : ℕ) → standing_in (promise_of facts) i ≡ standing_of i facts
standing_in-promise_of facts i = standing_in-take_on_all [] facts i

-- a lawful fact fits
pub lawful_fits : (n p : ℕ) (s : Option Standing) (h : Heard) (f : Fact) → IsPermittedAt n p s h f → fits n p s f ≡ true
lawful_fits n p None h (Enter i e) l = and_from _ _ (and_from _ _ refl (lt-ltb 0 e.round l.1)) (eq-eqb e.stamp 0 l.2.0)
lawful_fits n p (Some (Decided v)) h (Enter i e) l = absurd (false≢true l.0)
lawful_fits n p (Some (Open o)) h (Enter i e) l =
    and_from _ _ (and_from _ _ refl (lt-ltb o.round e.round l.1)) (and_from _ _ (eq-eqb e.stamp o.stamp (l.2).1) (subst (λ v. is_same_command v o.estimate ≡ true) (sym (l.2).0) (command_same o.estimate)))
lawful_fits n p None h (Propose i r v) l = absurd l.0
lawful_fits n p (Some (Decided w)) h (Propose i r v) l = absurd l.0
lawful_fits n p (Some (Open o)) h (Propose i r v) l =
    and_from _ _ (and_from _ _ (and_from _ _ refl (eq-eqb o.round r l.0)) (eq-eqb (coordinator_of r n) p (sym l.1))) (ap is_none l.2)
lawful_fits n p None h (Adopt i r v) l = absurd l.0
lawful_fits n p (Some (Decided w)) h (Adopt i r v) l = absurd l.0
lawful_fits n p (Some (Open o)) h (Adopt i r v) l = and_from _ _ (and_from _ _ refl (eq-eqb o.round r l.0)) (lt-ltb o.stamp r l.1)
lawful_fits n p s h (Decide i v) l = l.0

fit_from : (n p : ℕ) (h : Heard) (before facts : List Fact) (es : List Entry) → History n p h (before ++ facts) → ((i : ℕ) → standing_in es i ≡ standing_of i before) → all_fit n p es facts ≡ true
fit_from n p h before [] es H at = refl
fit_from n p h before (f ∷ facts) es H at =
    and_from _ _
    (subst (λ s. fits n p s f ≡ true) (sym (at (instance_of f))) (lawful_fits n p (standing_of (instance_of f) before) h f (H.lawful before f facts refl)))
    (fit_from n p h (before ++ f ∷ []) facts (take_on es f) (subst (History n p h) (sym (append_assoc before (f ∷ []) facts)) H)
    (λ i. standing_in-take_on es f i ∙ ap (λ s. if instance_of f == i then after_fact s f else s) (at i) ∙ sym (standing_push i before f)))

-- lawful facts fit the promises before them
pub history_fits : (n p : ℕ) (h : Heard) (facts : List Fact) → History n p h facts → all_fit n p [] facts ≡ true
history_fits n p h facts H = fit_from n p h [] facts [] H (λ i. refl)
