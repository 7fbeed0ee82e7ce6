-- What is known of what a program reads: standard input, and files by their paths.
use Rattle.std.specs.Prelude.{ℕ, List, Option, None, Some}
use Rattle.rr_stream.specs.Streams.{Reading}

-- files that are read by their paths: the bytes at each path, where they are known, and how many reads failed
pub record HeldFiles : Type 0 where
  pub bytes_at : List ℕ → Option (List ℕ)
  pub faults : ℕ

-- the file at a path, as a stream that is read
abbrev pub file_at : HeldFiles → List ℕ → Reading
file_at files path = record { remaining = files.bytes_at path; faults = files.faults }

-- what there is to read
pub record Readable : Type 0 where
  pub input : Reading
  pub files : HeldFiles

-- what there is to read of the file at a path, or of standard input where there is no path
abbrev pub reading_of : Option (List ℕ) → Readable → Reading
reading_of None from = from.input
reading_of (Some path) from = file_at from.files path
