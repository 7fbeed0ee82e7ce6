-- Which facts every image holds that a crash may leave.
use Rattle.std.proofs.Common.{◌≡◌, ℕ, ◌⊎◌, inl, inr, List, [], ◌++◌, sym, subst}
use Rattle.std.proofs.lemmas.List.{append-nil}
use Rattle.rr_types.specs.declared.fact.Fact.{Fact}
use Rattle.rr_disk.specs.Areas.{Areas}
use Rattle.rr_disk.specs.Crash.{Images, IsCrashImage, restarted}
use Rattle.rr_disk.proofs.Agreeing.{at_rest_image}
use Rattle.rr_journal.specs.Moments.{EachHolds, EachHoldsEither}
use Rattle.rr_journal.specs.Held.{Holds}

-- the group of no facts adds none
pub either_held : (holds : Images → List Fact → Type 0) (facts : List Fact) (both : Areas) → EachHoldsEither holds both facts [] → EachHolds holds both facts
either_held holds facts both held images is = by_either (held images is)
  where
    by_either : holds images facts ⊎ holds images (facts ++ []) → holds images facts
    by_either (inl h) = h
    by_either (inr h) = subst (λ (fs : List Fact). holds images fs) (append-nil facts) h

-- a disk at rest holds what its bytes hold
pub rest_held : (n p : ℕ) (facts : List Fact) (start : Images) (both : Areas) → both ≡ restarted start → Holds n p start facts → EachHolds (Holds n p) both facts
rest_held n p facts start both stands holds images is =
    let now : IsCrashImage (restarted start) images = subst (λ (b : Areas). IsCrashImage b images) stands is in
    let one = at_rest_image start.of_first images.of_first now.may_first in
    let other = at_rest_image start.of_second images.of_second now.may_second in
    let same : start ≡ images = λ i. record { of_first = sym one i; of_second = sym other i } in
    subst (λ (x : Images). Holds n p x facts) same holds
