-- What an answer of a node leaves of its cluster, but for the line that refuses an event.
use Rattle.std.proofs.Common.{◌≡◌, ◌<◌, inr, ℕ, List, [], ◌∷◌, ◌++◌, length, get_or, Option, None, Some, Result, Ok, Err, ap, sym, subst, ◌∙◌}
use Rattle.std.proofs.lemmas.List.{append_assoc}
use Rattle.std.specs.Prelude.{IfOk, OnOk}
use Rattle.rr_types.specs.declared.refusal.Refusal.{Refusal}
use Rattle.rr_node.specs.declared.event.Outcome.{Outcome}
use Rattle.rr_node.specs.Runs.{IsSpelt}
use Rattle.rr_node.specs.Seats.{Seat, Fails}
use Rattle.rr_text.specs.declared.event.Event.{Event}
use Rattle.rr_text.specs.declared.report.ReportLine.TheVariants as line
use Rattle.rr_sim.specs.Clusters.{Cluster, fail_at, with_refusal, IsEither, IsSpeltAt, IsSpeltBehind, Steps}
use Rattle.rr_sim.specs.Told.{told, TellsOne}
use Rattle.rr_sim.proofs.FailingLaws.{placed, failed_so, spelt_so}
use Rattle.rr_sim.proofs.ToldLaws.{told_append}

-- the line changes no node
pub spelt_without : (at p : ℕ) (refused : Option Refusal) (c : Cluster) → IsSpeltAt p (with_refusal at refused c) → IsSpeltAt p c
spelt_without at p None c h = h
spelt_without at p (Some e) c h = h

pub spelt_with : (at p : ℕ) (refused : Option Refusal) (c : Cluster) → IsSpeltAt p c → IsSpeltAt p (with_refusal at refused c)
spelt_with at p None c h = h
spelt_with at p (Some e) c h = h

module _ (k p : ℕ) (c new : Cluster) (seat next : Seat) (answer : Result Outcome Refusal) (is : k ≡ p) (there : k < length c.seats) (own : seat ≡ get_or c.seats k seat) where
  -- the answer to a failing device call
  pub failed_but : (A : Type 0) (given : Result (Option Refusal) A) → IfOk given (λ refused. (at : ℕ) → with_refusal at refused new ≡ placed k p at c answer next) → (fill : List ℕ) → Fails fill seat answer next
      → IfOk given (λ refused. (at : ℕ) → IsEither (λ starved. with_refusal at refused new ≡ fail_at p at starved fill c))
  failed_but A (Ok refused) left fill fails = λ at. failed_so (Ok tt) k p at c (with_refusal at refused new) seat next answer is there own (left at) fill fails
  failed_but A (Err why) left fill fails = tt

  pub spelt_but : (A : Type 0) (given : Result (Option Refusal) A) → IfOk given (λ refused. (at : ℕ) → with_refusal at refused new ≡ placed k p at c answer next) → IsSpelt next.doing → OnOk given (IsSpeltAt p new)
  spelt_but A (Ok refused) left spelt = spelt_without 0 p refused new (spelt_so (Ok tt) k p 0 c (with_refusal 0 refused new) seat next answer is there own (left 0) spelt)
  spelt_but A (Err why) left spelt = tt

-- a node's event alone is spelt behind it
pub behind_but : (A : Type 0) (given : Result (Option Refusal) A) (event : Event) (old new : Cluster) → OnOk given (IsSpeltAt event.node new) → IfOk given (λ refused. (at : ℕ) → IsSpeltBehind event old (with_refusal at refused new))
behind_but A (Ok refused) event old new h = λ at. inr (spelt_with at event.node refused new h)
behind_but A (Err why) event old new h = tt

pub step_spelt : (A : Type 0) (r : Result (Unit {0}) A) (event : Event) (old next new : Cluster) → IsSpeltBehind event old next → OnOk r (new ≡ next) → OnOk r (IsSpeltBehind event old new)
step_spelt A (Ok x) event old next new spelt same = subst (IsSpeltBehind event old) (sym same) spelt
step_spelt A (Err why) event old next new spelt same = tt

-- where the lines were told, and then that of the refusal, the whole is told
pub told_refused : (A : Type 0) (r : Result (Unit {0}) A) (at : ℕ) (event : Event) (old mid new : Cluster) (before between after : List ℕ) (e : Refusal) → Steps at event old (with_refusal at (Some e) mid)
    → IsSpeltBehind event old (with_refusal at (Some e) mid) → new ≡ record mid { lines = [] } → between ≡ before ++ told mid.lines → OnOk r (after ≡ between ++ told (line.Refuse at e ∷ []))
    → OnOk r (TellsOne at event old new before after)
told_refused A (Err why) at event old mid new before between after e steps spelt kept grew last = tt
told_refused A (Ok x) at event old mid new before between after e steps spelt kept grew last = (
  with_refusal at (Some e) mid,
  steps,
  spelt,
  kept,
  last
      ∙ ap (λ (t : List ℕ). t ++ told (line.Refuse at e ∷ [])) grew
      ∙ append_assoc before (told mid.lines) (told (line.Refuse at e ∷ []))
      ∙ ap (λ (t : List ℕ). before ++ t) (sym (told_append mid.lines (line.Refuse at e ∷ []))),
)
