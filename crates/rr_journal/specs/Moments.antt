-- What stands on a disk in each state of a flush, and what a crash may leave then.
use Rattle.std.specs.Prelude.{◌≡◌, ◌≢◌, ◌⊎◌, ℕ, ◌+◌, ◌<◌, List, [], ◌∷◌, ◌++◌, length, get_or, take, drop, All}
use Rattle.rr_types.specs.declared.fact.Fact.{Fact}
use Rattle.rr_disk.specs.declared.area.Area.{Area}
use Rattle.rr_disk.specs.declared.area.Area.TheVariants.{First, Second}
use Rattle.rr_disk.specs.Areas.{Areas, extent_of, replaced, written}
use Rattle.rr_disk.specs.Crash.{Images, IsCrashImage, restarted}
use Rattle.rr_journal.specs.Flushes.{Flush}

-- what is left of one area
abbrev pub image_of : Images → Area → List ℕ
image_of images First = images.of_first
image_of images Second = images.of_second

-- what is left of both areas, with another image of one
abbrev pub with_image : Images → Area → List ℕ → Images
with_image images First image = record images { of_first = image }
with_image images Second image = record images { of_second = image }

-- an area's bytes once the body stands behind the gate
abbrev pub body_written : Flush → List ℕ → List ℕ
body_written flush bytes = take (flush.gate + 1) bytes ++ flush.body ++ drop (flush.gate + 1 + length flush.body) bytes

-- an area's bytes once the gate is open
abbrev pub gate_opened : Flush → List ℕ → List ℕ
gate_opened flush bytes = take flush.gate bytes ++ (165 ∷ []) ++ drop (flush.gate + 1) bytes

-- the disk before the body is written
abbrev pub body_due : Flush → Images → Areas
body_due flush start = restarted start

-- the disk once the body is written
abbrev pub body_out : Flush → Images → Areas
body_out flush start =
    replaced (restarted start) flush.area (written (flush.gate + 1) flush.body (extent_of (restarted start) flush.area))

-- what a crash leaves once the body is safe
abbrev pub with_body : Flush → Images → Images
with_body flush start = with_image start flush.area (body_written flush (image_of start flush.area))

-- the disk once the body is safe
abbrev pub body_safe : Flush → Images → Areas
body_safe flush start = restarted (with_body flush start)

-- the disk once the gate is open
abbrev pub gate_set : Flush → Images → Areas
gate_set flush start =
    replaced (body_safe flush start) flush.area (written flush.gate (165 ∷ []) (extent_of (body_safe flush start) flush.area))

-- what a crash leaves once the open gate is safe
abbrev pub with_group : Flush → Images → Images
with_group flush start = with_image start flush.area (gate_opened flush (body_written flush (image_of start flush.area)))

-- the disk once the open gate is safe
abbrev pub group_safe : Flush → Images → Areas
group_safe flush start = restarted (with_group flush start)

-- what a flush rests on: a closed gate, before which stand the bytes of these facts, and a body that adds the group's facts once the gate is open
pub record IsGrounded (holds : Images → List Fact → Type 0) (flush : Flush) (start : Images) (facts : List Fact) : Type 0 where
  pub there : flush.gate < length (image_of start flush.area)
  pub closed : get_or (image_of start flush.area) flush.gate 0 ≢ 165
  pub before : (image : List ℕ) → All (λ b. b < 256) image → flush.gate < length image
      → take flush.gate image ≡ take flush.gate (image_of start flush.area) → get_or image flush.gate 0 ≢ 165
      → holds (with_image start flush.area image) facts
  pub after : (image : List ℕ) → All (λ b. b < 256) image
      → take (flush.gate + 1 + length flush.body) image ≡ take flush.gate (image_of start flush.area) ++ 165 ∷ flush.body
      → holds (with_image start flush.area image) (facts ++ flush.group.facts)

-- the disk is at this moment of a flush
pub record IsAt (moment : Flush → Images → Areas) (holds : Images → List Fact → Type 0) (flush : Flush)
    (start : Images) (facts : List Fact) (both : Areas) : Type 0 where
  pub grounded : IsGrounded holds flush start facts
  pub stands : both ≡ moment flush start

-- every image that a crash may leave holds these facts
abbrev pub EachHolds : (Images → List Fact → Type 0) → Areas → List Fact → Type 0
EachHolds holds both facts = (images : Images) → IsCrashImage both images → holds images facts

-- every image that a crash may leave holds these facts, or these and the group's
abbrev pub EachHoldsEither : (Images → List Fact → Type 0) → Areas → List Fact → List Fact → Type 0
EachHoldsEither holds both facts more = (images : Images) → IsCrashImage both images → holds images facts ⊎ holds images (facts ++ more)
