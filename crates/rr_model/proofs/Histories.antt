-- Lists of facts of which each is lawful where it stands (histories), and what holds behind them because lawful facts keep it.
use Rattle.std.proofs.Common.{◌≡◌, ℕ, ◌<◌, Bool, true, false, ◌==◌, if◌then◌else◌, List, [], ◌∷◌, ◌++◌, Option, None, Some, refl, ap, sym, ◌∙◌, subst, append_assoc, append-nil, eqb-true}
use Rattle.std.proofs.lemmas.Bool.{false≢true}
use Rattle.rr_types.specs.declared.command.Command.{Command}
use Rattle.rr_types.specs.declared.fact.Fact.{Fact}
use Rattle.rr_types.specs.declared.fact.Fact.TheVariants.{Enter, Propose, Adopt, Decide}
use Rattle.rr_types.specs.declared.promise.Standing.{Standing}
use Rattle.rr_types.specs.declared.promise.Standing.TheVariants.{Decided, Open}
use Rattle.rr_types.specs.declared.message.Body.TheVariants.{Proposal}
use Rattle.rr_types.specs.Rounds.{Estimated, OpenAt, coordinator_of}
use Rattle.rr_types.specs.Facts.{instance_of, standing_of, after_fact}
use Rattle.rr_types.specs.Standings.{standing_from}
use Rattle.rr_model.specs.Lawful.{Heard, Says, IsOfLargestStamp}
use Rattle.rr_model.proofs.Permitted.{IsNamed, IsPermittedAt, IsPermitted}

-- every fact of the list is lawful where it stands
pub record History (n p : ℕ) (h : Heard) (facts : List Fact) : Type 0 where
  pub lawful : (a : List Fact) (f : Fact) (b : List Fact) → facts ≡ a ++ f ∷ b → IsPermitted n p a h f

-- where an instance stands after two lists of facts
pub standing_from-append : (s : Option Standing) (i : ℕ) (xs ys : List Fact) → standing_from s i (xs ++ ys) ≡ standing_from (standing_from s i xs) i ys
standing_from-append s i [] ys = refl
standing_from-append s i (f ∷ xs) ys = standing_from-append (if instance_of f == i then after_fact s f else s) i xs ys

-- where an instance stands after one more fact
pub standing_push : (i : ℕ) (xs : List Fact) (f : Fact) → standing_of i (xs ++ f ∷ []) ≡ (if instance_of f == i then after_fact (standing_of i xs) f else standing_of i xs)
standing_push i xs f = standing_from-append None i xs (f ∷ [])

-- a beginning of a history is one
pub history_front : (n p : ℕ) (h : Heard) (a b : List Fact) → History n p h (a ++ b) → History n p h a
history_front n p h a b H = record {
  lawful = λ c f d e. H.lawful c f (d ++ b) (ap (λ z. z ++ b) e ∙ append_assoc c (f ∷ d) b);
}

one_step : (n p : ℕ) (h : Heard) (i : ℕ) (Q : Option Standing → Type 0) → ((s : Option Standing) (f : Fact) → instance_of f ≡ i → IsPermittedAt n p s h f → Q s → Q (after_fact s f)) → (a : List Fact) (f : Fact) → IsPermitted n p a h f → Q (standing_of i a) → (b : Bool) → (instance_of f == i) ≡ b → Q (if b then after_fact (standing_of i a) f else standing_of i a)
one_step n p h i Q keeps a f l q true e =
    let is : instance_of f ≡ i = eqb-true _ _ e in
    keeps (standing_of i a) f is (subst (λ j. IsPermittedAt n p (standing_of j a) h f) is l) q
one_step n p h i Q keeps a f l q false e = q

-- what holds where an instance stands, and is kept by lawful facts, holds from then on
pub from_then_on : (n p : ℕ) (h : Heard) (i : ℕ) (Q : Option Standing → Type 0) → ((s : Option Standing) (f : Fact) → instance_of f ≡ i → IsPermittedAt n p s h f → Q s → Q (after_fact s f)) → (a b : List Fact) → History n p h (a ++ b) → Q (standing_of i a) → Q (standing_of i (a ++ b))
from_then_on n p h i Q keeps a [] H q = subst (λ z. Q (standing_of i z)) (sym (append-nil a)) q
from_then_on n p h i Q keeps a (f ∷ b) H q =
    let e : (a ++ f ∷ []) ++ b ≡ a ++ f ∷ b = append_assoc a (f ∷ []) b in
    let next : Q (standing_of i (a ++ f ∷ [])) = subst Q (sym (standing_push i a f)) (one_step n p h i Q keeps a f (H.lawful a f b refl) q (instance_of f == i) refl) in
    subst (λ z. Q (standing_of i z)) e (from_then_on n p h i Q keeps (a ++ f ∷ []) b (subst (History n p h) (sym e) H) next)

-- what holds of no standing, and is kept by lawful facts, holds behind every history
pub always : (n p : ℕ) (h : Heard) (i : ℕ) (Q : Option Standing → Type 0) → ((s : Option Standing) (f : Fact) → instance_of f ≡ i → IsPermittedAt n p s h f → Q s → Q (after_fact s f)) → (b : List Fact) → History n p h b → Q None → Q (standing_of i b)
always n p h i Q keeps b H q = from_then_on n p h i Q keeps [] b H q

-- a property of an open instance; X stands for an instance without a round, and a decided one has every property
abbrev pub OnOpen : (OpenAt → Type 0) → Type 0 → Option Standing → Type 0
OnOpen P X None = X
OnOpen P X (Some (Decided v)) = Unit {0}
OnOpen P X (Some (Open o)) = P o

-- the standing that an Enter leaves
abbrev pub entered : Estimated → OpenAt
entered e = record { round = e.round; stamp = e.stamp; estimate = e.command; proposal = None }

-- what lawful facts keep of an open instance
pub record Keeps (n p : ℕ) (h : Heard) (i : ℕ) (P : OpenAt → Type 0) (X : Type 0) : Type 0 where
  pub first : (e : Estimated) → X → 0 < e.round → e.stamp ≡ 0 → IsNamed h e.command → P (entered e)
  pub next : (o : OpenAt) (e : Estimated) → P o → o.round < e.round → e.command ≡ o.estimate → e.stamp ≡ o.stamp → P (entered e)
  pub propose : (o : OpenAt) (v : Command) → P o → p ≡ coordinator_of o.round n → o.proposal ≡ None → IsOfLargestStamp n i o.round h.messages v → P (record o { proposal = Some v })
  pub adopt : (o : OpenAt) (v : Command) → P o → o.stamp < o.round → Says h.messages (coordinator_of o.round n) (Proposal i o.round v) → P (record o { stamp = o.round; estimate = v })

pub kept_by_facts : (n p : ℕ) (h : Heard) (i : ℕ) (P : OpenAt → Type 0) (X : Type 0) → Keeps n p h i P X → (s : Option Standing) (f : Fact) → instance_of f ≡ i → IsPermittedAt n p s h f → OnOpen P X s → OnOpen P X (after_fact s f)
kept_by_facts n p h i P X K None (Enter j e) is l q = K.first e q l.1 l.2.0 l.2.1
kept_by_facts n p h i P X K (Some (Decided v)) (Enter j e) is l q = absurd (false≢true l.0)
kept_by_facts n p h i P X K (Some (Open o)) (Enter j e) is l q = K.next o e q l.1 l.2.0 l.2.1
kept_by_facts n p h i P X K None (Propose j r v) is l q = absurd l.0
kept_by_facts n p h i P X K (Some (Decided w)) (Propose j r v) is l q = tt
kept_by_facts n p h i P X K (Some (Open o)) (Propose j r v) is l q =
    K.propose o v q (l.1 ∙ ap (λ z. coordinator_of z n) (sym l.0)) l.2 (subst (λ z. IsOfLargestStamp n i z h.messages v) (sym l.0) (subst (λ z. IsOfLargestStamp n z r h.messages v) is l.3))
kept_by_facts n p h i P X K None (Adopt j r v) is l q = absurd l.0
kept_by_facts n p h i P X K (Some (Decided w)) (Adopt j r v) is l q = tt
kept_by_facts n p h i P X K (Some (Open o)) (Adopt j r v) is l q =
    let at : (o.stamp < o.round) × Says h.messages (coordinator_of o.round n) (Proposal i o.round v) =
    subst (λ z. (o.stamp < z) × Says h.messages (coordinator_of z n) (Proposal i z v)) (sym l.0) (l.1, subst (λ z. Says h.messages (coordinator_of r n) (Proposal z r v)) is l.2) in
    subst (λ z. P (record o { stamp = z; estimate = v })) l.0 (K.adopt o v q at.0 at.1)
kept_by_facts n p h i P X K s (Decide j v) is l q = tt
