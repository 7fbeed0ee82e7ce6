-- What reading the areas of a disk answered.
use Rattle.std.specs.Prelude.{◌≡◌, ℕ, ◌≤◌, List, length, drop, Result, Ok, Err}
use Rattle.rr_types.specs.declared.refusal.Refusal.{Refusal}
use Rattle.rr_types.specs.declared.refusal.Refusal.TheVariants as refusals
use Rattle.rr_disk.specs.declared.area.Area.{Area}
use Rattle.rr_disk.specs.declared.area.Area.TheVariants as areas
use Rattle.rr_journal.specs.declared.content.Halt.{Halt}
use Rattle.rr_journal.specs.declared.content.Halt.TheVariants.{OutOfMemory, Broken}
use Rattle.rr_journal.specs.declared.image.Front.{Front}
use Rattle.rr_journal.specs.declared.image.Front.TheVariants as fronts
use Rattle.rr_journal.specs.declared.image.Image.{Image}
use Rattle.rr_journal.specs.declared.image.Image.TheVariants as images
use Rattle.rr_journal.specs.Image as grammar
use Rattle.rr_journal.specs.Image.{Content, Found}

-- reading went on to the end of the content, or stopped at the broken gate; or memory ran out
abbrev pub Ends : Result Content Halt → Result Content ℕ → Type 0
Ends (Ok c) content = content ≡ Ok c
Ends (Err OutOfMemory) content = Unit {0}
Ends (Err (Broken offset)) content = content ≡ Err offset

-- the first frame of an area of these bytes, as it was read
abbrev pub IsFront : List ℕ → Front → grammar.Front → Type 0
IsFront bytes fronts.Blank front = front ≡ grammar.Blank
IsFront bytes fronts.Faulty front = front ≡ grammar.Faulty
IsFront bytes (fronts.Begins version c) front = (c.gate ≤ length bytes) × (front ≡ grammar.Begins version c (drop c.gate bytes))

-- the number of an area
abbrev pub area_number : Area → ℕ
area_number areas.First = 0
area_number areas.Second = 1

-- what was found, as it was read
abbrev pub found_of : Image → Found
found_of images.Unformatted = grammar.Unformatted
found_of (images.Active area c) = grammar.Active area c
found_of (images.Outdated area c) = grammar.Outdated area c

-- reading both areas answered with what they stand for; or memory ran out
abbrev pub Finds : Result Image Refusal → Found → Type 0
Finds (Ok image) found = found ≡ found_of image
Finds (Err refusals.OutOfMemory) found = Unit {0}
Finds (Err (refusals.Damaged number offset)) found = (area : Area) × (number ≡ area_number area) × (found ≡ grammar.Broken area offset)
Finds (Err e) found = ⊥
