-- What stands on a disk in each phase of an opening, and what a crash may leave then.
use Rattle.std.specs.Prelude.{◌≡◌, ◌⊎◌, ℕ, ◌-◌, ◌^◌, ◌<◌, List, length, Result, Ok, Err}
use Rattle.rr_types.specs.declared.fact.Fact.{Fact}
use Rattle.rr_types.specs.declared.refusal.Refusal.{Refusal}
use Rattle.rr_disk.specs.Areas.{Areas, IsTorn, extent_of, bytes_of, read_of, synced}
use Rattle.rr_disk.specs.Crash.{Images, restarted}
use Rattle.rr_journal.specs.Moments.{EachHolds}
use Rattle.rr_journal.specs.declared.opening.Phase as code
use Rattle.rr_journal.specs.declared.opening.Phase.TheVariants as at
use Rattle.rr_journal.specs.declared.opening.Next as code_2
use Rattle.rr_journal.specs.declared.opening.Next.TheVariants as next
use Rattle.rr_journal.specs.declared.opening.Progress as code_3
use Rattle.rr_journal.specs.declared.opening.Progress.TheVariants as progress
use Rattle.rr_journal.specs.Calls.{Call, Read, Write, Sync}
use Rattle.rr_journal.specs.Image.{Active, found}
use Rattle.rr_journal.specs.Held.{Holds}
use Rattle.rr_journal.specs.OpenDisks.{IsOpenWith, IsOpenAtRest}
use Rattle.rr_journal.specs.Rewrites.{IsRewriting}

-- a read gave these bytes of its area
abbrev pub IsReadBy : Call → Areas → List ℕ → Type 0
IsReadBy (Read area) both bytes = bytes ≡ read_of 0 (2 ^ 64 - 1) (extent_of both area)
IsReadBy (Write area at written) both bytes = Unit {0}
IsReadBy Sync both bytes = Unit {0}

-- both areas after a call that failed
abbrev pub IsLeftBy : Call → Areas → Areas → Type 0
IsLeftBy (Read area) old new = new ≡ old
IsLeftBy (Write area at bytes) old new = IsTorn area at (length bytes) old new
IsLeftBy Sync old new = new ≡ old

-- the bytes of both areas as they stand
abbrev pub contents : Areas → Images
contents both = record { of_first = bytes_of both.first; of_second = bytes_of both.second }

-- nothing is loose in either area, of fewer than 2^64 bytes each
pub record IsResting (both : Areas) : Type 0 where
  pub start : Images
  pub stands : both ≡ restarted start
  pub first_fits : length start.of_first < 2 ^ 64
  pub second_fits : length start.of_second < 2 ^ 64

-- the same, and they hold these facts
pub record Rests (n p : ℕ) (facts : List Fact) (both : Areas) : Type 0 where
  pub start : Images
  pub stands : both ≡ restarted start
  pub first_fits : length start.of_first < 2 ^ 64
  pub second_fits : length start.of_second < 2 ^ 64
  pub holds : Holds n p start facts

-- an opening in this phase, of areas that are short enough
abbrev pub OpensAny : ℕ → ℕ → code.Phase → Areas → Type 0
OpensAny n p at.Settling both = IsResting (synced both)
OpensAny n p at.ReadingFirst both = IsResting both
OpensAny n p (at.ReadingSecond first) both = (rests : IsResting both) × (first.items ≡ rests.start.of_first)
OpensAny n p (at.Rewriting rewrite) both = IsRewriting n p rewrite both

-- an opening in this phase, of a disk that holds these facts
abbrev pub OpensWith : ℕ → ℕ → List Fact → code.Phase → Areas → Type 0
OpensWith n p facts at.Settling both = Rests n p facts (synced both)
OpensWith n p facts at.ReadingFirst both = Rests n p facts both
OpensWith n p facts (at.ReadingSecond first) both = (rests : Rests n p facts both) × (first.items ≡ rests.start.of_first)
OpensWith n p facts (at.Rewriting rewrite) both = (rewrites : IsRewriting n p rewrite both) × Holds n p rewrites.start facts

-- what comes behind a device call of such an opening: such a phase, or a content of the bytes
abbrev pub GoesOnAny : ℕ → ℕ → code_2.Next → Areas → Type 0
GoesOnAny n p (next.Phase phase) both = OpensAny n p phase both
GoesOnAny n p (next.Open area epoch gate promise number) both =
    (start : Images) × (both ≡ restarted start)
    × (found n p start.of_first start.of_second
    ≡ Active area (record { epoch = epoch; promise = promise; next = number; gate = gate }))

-- where the disk holds facts: such a phase, or a content of the facts
abbrev pub GoesOnWith : ℕ → ℕ → List Fact → code_2.Next → Areas → Type 0
GoesOnWith n p facts (next.Phase phase) both = OpensWith n p facts phase both
GoesOnWith n p facts (next.Open area epoch gate promise number) both =
    (start : Images) × (both ≡ restarted start) × Holds n p start facts
    × (found n p start.of_first start.of_second
    ≡ Active area (record { epoch = epoch; promise = promise; next = number; gate = gate }))

-- a step of such an opening gives one, or a journal over what the bytes stand for
abbrev pub ComesToAny : {D : Type 0} → (D → Areas) → code_3.Progress D → Type 0
ComesToAny areas (progress.More opening) = OpensAny opening.nodes opening.node opening.phase (areas opening.disk)
ComesToAny areas (progress.Done journal opened) = IsOpenAtRest areas (journal, opened)

-- where the disk holds facts: one, or a journal over these facts, their promise and how many they are
abbrev pub ComesTo : {D : Type 0} → (D → Areas) → List Fact → code_3.Progress D → Type 0
ComesTo areas facts (progress.More opening) = OpensWith opening.nodes opening.node facts opening.phase (areas opening.disk)
ComesTo areas facts (progress.Done journal opened) = IsOpenWith areas facts (journal, opened)

-- both areas are as they were, or every image that a crash may leave holds these facts
abbrev pub IsKept : (Images → List Fact → Type 0) → List Fact → Areas → Areas → Type 0
IsKept holds facts old new = (new ≡ old) ⊎ EachHolds holds new facts

-- the disk behind a step, whatever it answered
abbrev pub disk_after : {D : Type 0} → Result (code_3.Progress D) (Refusal × D) → D
disk_after (Ok (progress.More opening)) = opening.disk
disk_after (Ok (progress.Done journal opened)) = journal.disk
disk_after (Err (e, disk)) = disk
