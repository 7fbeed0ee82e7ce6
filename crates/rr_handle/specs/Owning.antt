-- What a handle owns: the box at its pointer where it is full, and else nothing.
use Rattle.std.specs.Prelude.{Bool, true, false}
use base.Fml.{Fml, ftrue}
use base.Stored.{Coded}
use denote.Plain.{Boolean}
use denote.RawPtr.{Ptr}
use Rattle.std.specs.Box.Ownership.{box_owns}
use Rattle.std.specs.Global.{Global}
use Rattle.std_heap.specs.contracts.GlobalAllocator.TheImpl.{ghosts}
use Rattle.rr_host.specs.contracts.host.Host.{the_row}

abbrev pub Full : Type 0
Full = Bool

abbrev pub full_coded : Coded Full
full_coded = Boolean.coded

abbrev pub Inside : Type 0
Inside = the_row.Denot

abbrev pub inside_coded : Coded Inside
inside_coded = the_row.coded

abbrev pub held_owns : Bool → Global → Ptr → Inside → Fml
held_owns true alloc p x = box_owns (ghosts.dealloc_token alloc) the_row p x
held_owns false alloc p x = ftrue
