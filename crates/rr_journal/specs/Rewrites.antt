-- An area that an opening writes anew: the first of a disk that isn't formatted, or the one beside an area of version 1.
use Rattle.std.specs.Prelude.{◌≡◌, ℕ, Bool, true, false, List, [], ◌∷◌, length}
use Rattle.rr_disk.specs.declared.area.Area.{Area}
use Rattle.rr_disk.specs.declared.area.Area.TheVariants.{First, Second}
use Rattle.rr_disk.specs.Areas.{Areas}
use Rattle.rr_disk.specs.Crash.{Images, restarted}
use Rattle.rr_frame.specs.SnapshotFormat.{snapshot_bytes, IsLawfulSnapshot}
use Rattle.rr_journal.specs.Image.{Content, Found, Unformatted, Broken, Active, Outdated, found}
use Rattle.rr_journal.specs.Flushes.{Flush}
use Rattle.rr_journal.specs.Moments.{image_of, body_due, body_out, body_safe, gate_set}
use Rattle.rr_journal.specs.Calls.{Write, after_call, frame_bytes, must_close}
use Rattle.rr_journal.specs.OtherAreas.{other_area}
use Rattle.rr_journal.specs.Openings.{snapshot_with, formatted}
use Rattle.rr_journal.specs.Migration.{migrated, may_migrate}
use Rattle.rr_journal.specs.declared.stage.Stage.{Stage}
use Rattle.rr_journal.specs.declared.stage.Stage.TheVariants.{Closing, SettlingClosed, WritingBody, SettlingBody, OpeningGate, SettlingGate}

-- whether an opening that finds this writes an area anew
abbrev pub writes_anew : Found → Bool
writes_anew Unformatted = true
writes_anew (Broken area offset) = false
writes_anew (Active area c) = false
writes_anew (Outdated area c) = may_migrate c

-- the area that an opening writes anew, or the one that it found
abbrev pub area_anew : Found → Area
area_anew Unformatted = First
area_anew (Broken area offset) = area
area_anew (Active area c) = area
area_anew (Outdated area c) = other_area area

-- the area beside it, of which no byte changes
abbrev pub area_kept : Found → Area
area_kept Unformatted = Second
area_kept (Broken area offset) = other_area area
area_kept (Active area c) = other_area area
area_kept (Outdated area c) = area

-- what the area that it writes holds at the end
abbrev pub content_anew : Found → Content
content_anew Unformatted = formatted
content_anew (Broken area offset) = formatted
content_anew (Active area c) = c
content_anew (Outdated area c) = migrated c

-- the writing of an area anew: what was found, what is written behind the area's first gate, and how far it has come
pub record Rewrite : Type 0 where
  pub found : Found
  pub body : List ℕ
  pub stage : Stage

-- an area is written anew, and behind this body stands the gate of what it holds then
pub record IsSized (rewrite : Rewrite) : Type 0 where
  pub due : writes_anew rewrite.found ≡ true
  pub gate : length rewrite.body ≡ (content_anew rewrite.found).gate

-- a rewrite is a flush of no facts: it writes a snapshot behind the first gate of the area
abbrev pub flush_anew : ℕ → ℕ → Found → Flush
flush_anew n p found = record {
  nodes = n;
  node = p;
  area = area_anew found;
  gate = 0;
  body = frame_bytes (snapshot_bytes (snapshot_with n p (content_anew found)));
  group = record { serial = (content_anew found).next; facts = [] };
}

-- both areas in a stage of a flush that began over these images: its gate has to be closed first, or it is closed, and they are at a moment of the flush
abbrev pub IsInStage : Stage → Flush → Images → Areas → Type 0
IsInStage Closing flush start both = (must_close (image_of start flush.area) ≡ true) × (both ≡ restarted start)
IsInStage SettlingClosed flush start both =
    (must_close (image_of start flush.area) ≡ true) × (both ≡ after_call (Write flush.area 0 (0 ∷ [])) (restarted start))
IsInStage WritingBody flush start both = (must_close (image_of start flush.area) ≡ false) × (both ≡ body_due flush start)
IsInStage SettlingBody flush start both = (must_close (image_of start flush.area) ≡ false) × (both ≡ body_out flush start)
IsInStage OpeningGate flush start both = (must_close (image_of start flush.area) ≡ false) × (both ≡ body_safe flush start)
IsInStage SettlingGate flush start both = (must_close (image_of start flush.area) ≡ false) × (both ≡ gate_set flush start)

-- a rewrite over images in which this was found: its snapshot has a spelling
pub record IsRewriting (n p : ℕ) (rewrite : Rewrite) (both : Areas) : Type 0 where
  pub start : Images
  pub due : writes_anew rewrite.found ≡ true
  pub finds : found n p start.of_first start.of_second ≡ rewrite.found
  pub body : rewrite.body ≡ (flush_anew n p rewrite.found).body
  pub spelt : IsLawfulSnapshot (snapshot_with n p (content_anew rewrite.found))
  pub stands : IsInStage rewrite.stage (flush_anew n p rewrite.found) start both
