-- What is read of the folder of a node.
use Rattle.std.specs.Prelude.{ℕ, if◌then◌else◌, nat_lt, List, Option, None, Some}
use Rattle.rr_types.specs.declared.refusal.Refusal.TheVariants.{Damaged}
use Rattle.rr_frame.specs.declared.version.Version.{Version}
use Rattle.rr_frame.specs.declared.version.Version.TheVariants.{One, Two}
use Rattle.rr_journal.specs.declared.inspection.AreaReport.{AreaReport}
use Rattle.rr_journal.specs.Ends.{area_number}
use Rattle.rr_journal.specs.Image.{Content, Found, Unformatted, Broken, Active, Outdated, found}
use Rattle.rr_journal.specs.Inspect.{Inspected, Tells, Breaks, inspected}
use Rattle.rr_folders.specs.declared.verify_folder.Reading.{Reading}
use Rattle.rr_folders.specs.declared.verify_folder.Reading.TheVariants.{Facts, Blank, Refused}

-- what is told of the area of the greater epoch
abbrev pub newer : Option AreaReport → Option AreaReport → Option AreaReport
newer None other = other
newer (Some a) None = Some a
newer (Some a) (Some b) = Some (if nat_lt a.epoch b.epoch then b else a)

-- a folder with an active area of this version and content, as the node reads it that it names
abbrev pub holding : AreaReport → Version → Content → Reading
holding r version c =
    Facts (record { version = version; nodes = r.nodes; node = r.node; facts = c.next; promise = c.promise })

-- what the node that an area names finds
abbrev pub by_owner : AreaReport → Found → Reading
by_owner r Unformatted = Blank
by_owner r (Broken area offset) = Refused (Damaged (area_number area) offset)
by_owner r (Active area c) = holding r Two c
by_owner r (Outdated area c) = holding r One c

-- what the node finds in areas of these bytes that the newer one names; nothing where neither is formatted
abbrev pub by_newer : List ℕ → List ℕ → Option AreaReport → Reading
by_newer first second None = Blank
by_newer first second (Some r) = by_owner r (found r.nodes r.node first second)

-- the same by what both areas tell
abbrev pub by_inspection : List ℕ → List ℕ → Inspected → Reading
by_inspection first second (Breaks area offset) = Refused (Damaged (area_number area) offset)
by_inspection first second (Tells a b) = by_newer first second (newer a b)

-- what is read of areas of these bytes
abbrev pub reading_of : List ℕ → List ℕ → Reading
reading_of first second = by_inspection first second (inspected first second)
