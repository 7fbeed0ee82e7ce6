-- How the areas of a disk are told.
use Rattle.std.specs.Prelude.{◌≡◌, ℕ, List, ◌∷◌, [], ◌++◌, codes, decimal, Option, None, Some, Result, Ok, Err, Vec}
use Rattle.std.specs.declared.alloc.Global.{Global}
use Rattle.rr_types.specs.declared.refusal.Refusal.{Refusal}
use Rattle.rr_text.specs.ReportTexts.{line}
use Rattle.rr_frame.specs.declared.version.Version.{Version}
use Rattle.rr_frame.specs.declared.version.Version.TheVariants.{One, Two}
use Rattle.rr_journal.specs.declared.inspection.AreaReport.{AreaReport}
use Rattle.rr_journal.specs.Inspect.{Inspected, Tells, IsTold}
use Rattle.rr_words.specs.declared.tasks.Form.{Form}
use Rattle.rr_words.specs.declared.tasks.Form.TheVariants.{Plain, Json}
use Rattle.rr_cli.specs.AreaObjects.{areas_objects}

-- version 2 isn't told
abbrev pub version_words : Version → List (List ℕ)
version_words One = codes "version" ∷ codes "1" ∷ []
version_words Two = []

-- the words on an area of this number: whether it is formatted, and then its epoch, its node of so many, the number of
-- its next fact, how many commands have decided, and an earlier version
abbrev pub area_words : ℕ → Option AreaReport → List (List ℕ)
area_words number None = codes "area" ∷ decimal number ∷ codes "unformatted" ∷ []
area_words number (Some r) =
    codes "area" ∷ decimal number ∷ codes "epoch" ∷ decimal r.epoch ∷ codes "node" ∷ decimal r.node ∷ codes "of"
    ∷ decimal r.nodes ∷ codes "facts" ∷ decimal r.next ∷ codes "decided" ∷ decimal r.decided ∷ version_words r.version

-- the text on both areas, a line each
abbrev pub areas_text : Option AreaReport → Option AreaReport → List ℕ
areas_text first second = line (area_words 0 first) ++ line (area_words 1 second)

-- the text on both areas in this form
abbrev pub areas_in : Form → Option AreaReport → Option AreaReport → List ℕ
areas_in Plain first second = areas_text first second
areas_in Json first second = areas_objects first second

-- what was answered for the text on both areas: the text, or the place where one is broken; or memory ran out
abbrev pub IsShownIn : Form → Result (Vec ℕ Global) Refusal → Inspected → Type 0
IsShownIn form (Ok text) seen =
    (first : Option AreaReport) × (second : Option AreaReport) × (seen ≡ Tells first second) × (text.items ≡ areas_in form first second)
IsShownIn form (Err e) seen = IsTold (Err e) seen

-- the same for people
abbrev pub IsShown : Result (Vec ℕ Global) Refusal → Inspected → Type 0
IsShown result seen = IsShownIn Plain result seen
