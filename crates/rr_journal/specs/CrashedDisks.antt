-- An opening of a disk of which a crash may leave many images, each with facts of its own.
use Rattle.std.specs.Prelude.{◌≡◌, ◌⊎◌, ℕ, false, List}
use Rattle.rr_types.specs.declared.fact.Fact.{Fact}
use Rattle.rr_disk.specs.Areas.{Areas}
use Rattle.rr_disk.specs.Crash.{Images, IsCrashImage}
use Rattle.rr_journal.specs.Moments.{EachHolds}
use Rattle.rr_journal.specs.declared.journal.Journal.{Journal}
use Rattle.rr_journal.specs.declared.opened.Opened.{Opened}
use Rattle.rr_journal.specs.Image.{found}
use Rattle.rr_journal.specs.Held.{Holds}
use Rattle.rr_journal.specs.Openings.{Phase, Settling, ReadingFirst, ReadingSecond, Rewriting}
use Rattle.rr_journal.specs.Rewrites.{writes_anew}
use Rattle.rr_journal.specs.OpeningTable.{contents}
use Rattle.rr_journal.specs.OpenDisks.{IsOpenWith}

-- the bytes as they stand are among the images that a crash may leave
abbrev pub MayStand : Areas → Type 0
MayStand both = IsCrashImage both (contents both)

-- every image that a crash may leave holds some facts, each its own
abbrev pub EachHoldsSome : (Images → List Fact → Type 0) → Areas → Type 0
EachHoldsSome holds both = (images : Images) → IsCrashImage both images → (facts : List Fact) × holds images facts

-- an image that a crash may leave holds these facts
abbrev pub SomeHolds : (Images → List Fact → Type 0) → Areas → List Fact → Type 0
SomeHolds holds both facts = (images : Images) × IsCrashImage both images × holds images facts

-- the journal is over the facts of one of the images that a crash might have left, and every image now holds these
abbrev pub IsOpenWithOneOf : {D : Type 0} → (D → Areas) → (Images → List Fact → Type 0) → Areas → Journal D × Opened → Type 0
IsOpenWithOneOf areas holds old (journal, opened) =
    (facts : List Fact) × SomeHolds holds old facts × IsOpenWith areas facts (journal, opened)
    × EachHolds (Holds journal.nodes journal.node) (areas journal.disk) facts

-- an opening in this phase writes nothing yet
abbrev pub IsReading : Phase → Type 0
IsReading Settling = Unit {0}
IsReading ReadingFirst = Unit {0}
IsReading (ReadingSecond first) = Unit {0}
IsReading (Rewriting found calls) = ⊥

-- every image that a crash may leave is one from before, and so are the bytes as they stand
abbrev pub AddsNone : Areas → Areas → Type 0
AddsNone old new = MayStand new × ((images : Images) → IsCrashImage new images → IsCrashImage old images)

-- every image that a crash may leave is one from before; or, where an area was written anew, it holds the facts that the bytes held as they stood
abbrev pub AddsSameAlone : ℕ → ℕ → Areas → Areas → Type 0
AddsSameAlone n p old new = (images : Images) → IsCrashImage new images
    → (writes_anew (found n p (contents old).of_first (contents old).of_second) ≡ false → IsCrashImage old images)
    × ((facts : List Fact) → Holds n p (contents old) facts → IsCrashImage old images ⊎ Holds n p images facts)
