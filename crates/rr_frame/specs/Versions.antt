-- The two versions of the bytes. Their fields are the same; they differ in what these may hold.
use Rattle.std.specs.Prelude.{ℕ, ◌==◌, ◌||◌, if◌then◌else◌, List, ◌≤◌, length, Ok}
use Rattle.rr_types.specs.Names.{IsName}
use Rattle.rr_types.specs.Limits.{instance_count, max_text}
use Rattle.rr_frame.specs.declared.version.Version.{Version}
use Rattle.rr_frame.specs.declared.version.Version.TheVariants.{One, Two}
use Rattle.rr_frame.specs.Reading.{Reading, ◌>>=◌, if_lawful, number_at}

-- the byte that stands for a version
abbrev pub version_number : Version → ℕ
version_number One = 1
version_number Two = 2

-- the most bytes of a name
abbrev pub longest_name : Version → ℕ
longest_name One = 32
longest_name Two = max_text

-- how many instances there are
abbrev pub instances : Version → ℕ
instances One = 65536
instances Two = instance_count

-- how many operations there are: version 1 has no transfer
abbrev pub operations : Version → ℕ
operations One = 3
operations Two = 4

-- a name that has a spelling in a version
abbrev pub IsNameIn : Version → List ℕ → Type 0
IsNameIn version name = IsName name × (length name ≤ longest_name version)

-- the version of a number that is 1 or 2
abbrev pub version_of : ℕ → Version
version_of number = if number == 1 then One else Two

-- a version at the front
unfoldable pub version_at : List ℕ → Reading Version
version_at bytes = do
  number ← number_at 1 bytes
  number ← if_lawful (number.0 == 1 || number.0 == 2) bytes number
  Ok (version_of number.0, number.1)
