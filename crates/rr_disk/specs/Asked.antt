-- The calls that a disk of files asks of a file, and those that write back what the file holds.
use Rattle.std.specs.Prelude.{ℕ, ◌+◌, ◌≤◌, Bool, true, false, List, length}

-- a call, with its bytes and whether it succeeded: of a read those that it gave, of a write those that it was given
pub data Call : Type 0 where
  reads : (at : ℕ) (bytes : List ℕ) (ok : Bool) → Call
  writes : (at : ℕ) (bytes : List ℕ) (ok : Bool) → Call
  syncs : (ok : Bool) → Call

-- the bytes from an offset up to an end are written back: each block is read, and written where it was read. It is done, or stops at a call that fails
pub data WritesBack {F : Type 0} (gives : F → Call → F → Type 0) (end : ℕ) : Bool → ℕ → F → F → Type 0 where
  done : (at : ℕ) (file : F) → end ≤ at → WritesBack gives end true at file file
  block : (whole : Bool) (at : ℕ) (bytes : List ℕ) (old read written new : F) → at + length bytes ≤ end
      → gives old (reads at bytes true) read
      → gives read (writes at bytes true) written
      → WritesBack gives end whole (at + length bytes) written new → WritesBack gives end whole at old new
  unread : (at : ℕ) (bytes : List ℕ) (old new : F) → gives old (reads at bytes false) new → WritesBack gives end false at old new
  unwritten : (at : ℕ) (bytes : List ℕ) (old read new : F) → gives old (reads at bytes true) read
      → gives read (writes at bytes false) new
      → WritesBack gives end false at old new
