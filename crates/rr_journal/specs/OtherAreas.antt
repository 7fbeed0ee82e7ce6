-- Whether an area has to be closed before it is written anew.
use Rattle.std.specs.Prelude.{◌≡◌, Bool}
use Rattle.rr_disk.specs.declared.area.Area.{Area}
use Rattle.rr_disk.specs.declared.area.Area.TheVariants.{First, Second}
use Rattle.rr_disk.specs.Areas.{Areas, extent_of, bytes_of}
use Rattle.rr_journal.specs.declared.journal.Journal.{Journal}
use Rattle.rr_journal.specs.Calls.{must_close}

-- the other of the two areas
abbrev pub other_area : Area → Area
other_area First = Second
other_area Second = First

-- whether an area has to be closed before it is written anew
abbrev pub closes_in : Areas → Area → Bool
closes_in both area = must_close (bytes_of (extent_of both area))

-- a journal knows whether the other area has to be closed
abbrev pub IsOtherKnown : {D : Type 0} → (D → Areas) → Journal D → Type 0
IsOtherKnown areas journal = journal.closes_other ≡ closes_in (areas journal.disk) (other_area journal.area)
