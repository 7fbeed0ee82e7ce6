-- What the bytes of both areas tell, each read as the node does that its own snapshot names.
use Rattle.std.specs.Prelude.{◌≡◌, ◌⊎◌, ℕ, ◌-◌, ◌^◌, ◌≤◌, ◌==◌, nat_lt, if◌then◌else◌, List, length, drop, Option, None, Some, Result, Ok, Err, Vec}
use Rattle.std.specs.declared.alloc.Global.{Global}
use Rattle.rr_types.specs.declared.refusal.Refusal.{Refusal}
use Rattle.rr_types.specs.declared.refusal.Refusal.TheVariants as refusals
use Rattle.rr_types.specs.Promises.{decided_from}
use Rattle.rr_disk.specs.declared.area.Area.{Area}
use Rattle.rr_disk.specs.declared.area.Area.TheVariants.{First, Second}
use Rattle.rr_frame.specs.declared.version.Version.{Version}
use Rattle.rr_frame.specs.SnapshotFormat.{snapshot_in}
use Rattle.rr_journal.specs.Ends.{area_number}
use Rattle.rr_journal.specs.declared.inspection.AreaReport.{AreaReport}
use Rattle.rr_journal.specs.declared.inspection.OwnFront as code
use Rattle.rr_journal.specs.declared.inspection.OwnFront.TheVariants as fronts
use Rattle.rr_journal.specs.Image.{Content, Front, Blank, Faulty, Begins, frame_behind, front_of, content_behind}

-- how many nodes there are, and which of them an area is of
pub record Owner : Type 0 where
  pub nodes : ℕ
  pub node : ℕ

-- whom the snapshot of this payload names; one that is malformed names nobody, which 0 nodes stand for
abbrev pub owner_in : List ℕ → Owner
owner_in payload = elim (snapshot_in payload) [ Err offset ↦ record { nodes = 0; node = 0 } | Ok x ↦ record { nodes = x.1.nodes; node = x.1.node } ]

-- whom the first frame of an area names
abbrev pub owner_of : List ℕ → Owner
owner_of bytes = elim (frame_behind (drop 1 bytes)) [ None ↦ record { nodes = 0; node = 0 } | Some x ↦ owner_in x.0 ]

-- the first frame of an area, as the node reads it that it names
abbrev pub own_front : List ℕ → Front
own_front bytes = front_of (owner_of bytes).nodes (owner_of bytes).node bytes

-- what is told of an area of this version and content: how many instances have decided is counted from 0 on without a gap
abbrev pub told : Owner → Version → Content → AreaReport
told owner version c =
    record {
      version = version;
      epoch = c.epoch;
      node = owner.node;
      nodes = owner.nodes;
      next = c.next;
      decided = length (decided_from 0 c.promise);
    }

-- what is told of both areas, where None is said of one that isn't formatted; or the area that is broken, and where
pub data Inspected : Type 0 where
  Tells : Option AreaReport → Option AreaReport → Inspected
  Breaks : Area → ℕ → Inspected

-- what is told of an area, beside what is told of the other
abbrev pub beside : Area → AreaReport → Option AreaReport → Inspected
beside First one other = Tells (Some one) other
beside Second one other = Tells other (Some one)

-- an active area, whose frames are all read, beside what is told of the other
abbrev pub active : Area → Owner → Version → Content → List ℕ → Option AreaReport → Inspected
active area owner version c rest other =
    elim (content_behind version owner.nodes owner.node c rest)
    [ Err offset ↦ Breaks area offset | Ok d ↦ beside area (told owner version d) other ]

-- the first frames of both areas decide which is active; of one that isn't its snapshot is told alone
abbrev pub inspected_by : Owner → Owner → Front → Front → Inspected
inspected_by o p Faulty second = Breaks First 0
inspected_by o p Blank Faulty = Breaks Second 0
inspected_by o p Blank Blank = Tells None None
inspected_by o p Blank (Begins w d rest) = active Second p w d rest None
inspected_by o p (Begins v c rest) Faulty = Breaks Second 0
inspected_by o p (Begins v c rest) Blank = active First o v c rest None
inspected_by o p (Begins v c rest) (Begins w d rest_2) =
    if c.epoch == d.epoch then Breaks Second 0
    else (if nat_lt d.epoch c.epoch then active First o v c rest (Some (told p w d)) else active Second p w d rest_2 (Some (told o v c)))

-- what the bytes of area 0 and area 1 tell
unfoldable pub inspected : List ℕ → List ℕ → Inspected
inspected first second = inspected_by (owner_of first) (owner_of second) (own_front first) (own_front second)

-- the first frame of an area of these bytes, as it was read
abbrev pub IsOwnFront : List ℕ → code.OwnFront → Type 0
IsOwnFront bytes fronts.Blank = own_front bytes ≡ Blank
IsOwnFront bytes fronts.Faulty = own_front bytes ≡ Faulty
IsOwnFront bytes (fronts.Begins own) =
    (own.content.gate ≤ length bytes)
    × (own_front bytes ≡ Begins own.version own.content (drop own.content.gate bytes))
    × (owner_of bytes ≡ record { nodes = own.nodes; node = own.node })

-- an inspection answered with what the areas tell, or with the place where one is broken; or memory ran out
abbrev pub IsTold : Result (Option AreaReport × Option AreaReport) Refusal → Inspected → Type 0
IsTold (Ok r) seen = seen ≡ Tells r.0 r.1
IsTold (Err refusals.OutOfMemory) seen = Unit {0}
IsTold (Err (refusals.Damaged number offset)) seen = (area : Area) × (number ≡ area_number area) × (seen ≡ Breaks area offset)
IsTold (Err e) seen = ⊥

-- a refusal that says where an area is broken
abbrev pub IsDamage : Refusal → Type 0
IsDamage (refusals.Damaged number offset) = Unit {0}
IsDamage e = ⊥

-- a read is refused for memory or by the device
abbrev pub IsRefusedRead : Refusal → Type 0
IsRefusedRead e = (e ≡ refusals.OutOfMemory) ⊎ (e ≡ refusals.Device)

-- an inspection of a disk: both areas were read, and what they tell was answered; or a read was refused
pub data Inspects {D : Type 0} (of_read : D → Area → ℕ → ℕ → Result (Vec ℕ Global) Refusal → D → Type 0) (old : D)
    (result : Result (Option AreaReport × Option AreaReport) Refusal) (new : D) : Type 0 where
  both_read : (first second : Vec ℕ Global) (mid : D) → of_read old First 0 (2 ^ 64 - 1) (Ok first) mid → of_read mid Second 0 (2 ^ 64 - 1) (Ok second) new
      → IsTold result (inspected first.items second.items) → Inspects of_read old result new
  first_refused : (e : Refusal) → IsRefusedRead e → of_read old First 0 (2 ^ 64 - 1) (Err e) new → result ≡ Err e → Inspects of_read old result new
  second_refused : (first : Vec ℕ Global) (mid : D) (e : Refusal) → IsRefusedRead e
      → of_read old First 0 (2 ^ 64 - 1) (Ok first) mid
      → of_read mid Second 0 (2 ^ 64 - 1) (Err e) new
      → result ≡ Err e → Inspects of_read old result new
