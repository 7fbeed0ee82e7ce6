-- What a crash leaves in a flush.
use Rattle.std.proofs.Common.{List, inl}
use Rattle.rr_types.specs.declared.fact.Fact.{Fact}
use Rattle.rr_disk.specs.Areas.{Areas}
use Rattle.rr_disk.specs.Crash.{Images}
use Rattle.rr_journal.specs.Moments.{EachHolds, EachHoldsEither}

-- images that hold the facts hold them, or them with more
pub either : (holds : Images → List Fact → Type 0) (both : Areas) (facts more : List Fact) → EachHolds holds both facts → EachHoldsEither holds both facts more
either holds both facts more each = λ images crash. inl (each images crash)
