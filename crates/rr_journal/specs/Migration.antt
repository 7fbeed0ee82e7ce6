-- What stands in the place of an area of version 1 once its node has opened it.
use Rattle.std.specs.Prelude.{ℕ, ◌+◌, ◌^◌, Bool, ◌&&◌, nat_lt, List, length}
use Rattle.std.specs.List.{flat_map}
use Rattle.rr_types.specs.declared.promise.Entry.{Entry}
use Rattle.rr_frame.specs.SnapshotFormat.{entry_bytes}
use Rattle.rr_journal.specs.Image.{Content}

-- how many bytes a snapshot of these entries has
abbrev pub snapshot_size : List Entry → ℕ
snapshot_size entries = 23 + length (flat_map entry_bytes entries)

-- what stands in the place of an area of version 1: its promise behind a snapshot with the next epoch
abbrev pub migrated : Content → Content
migrated c = record { epoch = c.epoch + 1; promise = c.promise; next = c.next; gate = 5 + snapshot_size c.promise }

-- whether that snapshot has an epoch below 2^64, and ends below byte 4,294,967,296 of its area; no promise of version 1 is so long
abbrev pub may_migrate : Content → Bool
may_migrate c = nat_lt (c.epoch + 1) (2 ^ 64) && nat_lt (6 + snapshot_size c.promise) (2 ^ 32)
