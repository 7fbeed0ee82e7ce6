-- What is told of a snapshot whose entries aren't kept.
use Rattle.std.specs.Prelude.{ℕ, List, Option, None, Some, Ok, Err}
use Rattle.rr_frame.specs.declared.version.Version.{Version}
use Rattle.rr_frame.specs.declared.heading.Heading.{Heading}
use Rattle.rr_frame.specs.Snapshots.{Snapped}
use Rattle.rr_frame.specs.Reading.{Reading, ◌>>=◌}
use Rattle.rr_frame.specs.SnapshotFormat.{snapshot_in}

-- nothing is kept of a value
abbrev pub nothing : {A : Type 0} → A → Unit {0}
nothing a = tt

-- reading a value and keeping only this of it
abbrev pub told : {A B : Type 0} → (A → B) → Reading A → Reading B
told keep read = read >>= λ x. Ok (keep x.0, x.1)

-- the heading of a snapshot in a version
abbrev pub heading_of : Version × Snapped → Heading
heading_of (version, s) = record { version = version; nodes = s.nodes; node = s.node; epoch = s.epoch }

-- the heading of the snapshot that all the bytes spell; None where they spell none
abbrev pub heading_in : List ℕ → Option Heading
heading_in bytes = elim (snapshot_in bytes) [ Err offset ↦ None | Ok x ↦ Some (heading_of x) ]
