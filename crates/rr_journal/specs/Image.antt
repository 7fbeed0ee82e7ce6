-- What the bytes of a node's two areas stand for.
use Rattle.std.specs.Prelude.{ℕ, zero, suc, ◌+◌, Bool, false, ◌&&◌, ◌==◌, nat_lt, nat_le, if◌then◌else◌, List, [], ◌∷◌, length, take, drop, Option, None, Some, Result, Ok, Err}
use Rattle.rr_types.specs.declared.promise.Entry.{Entry}
use Rattle.rr_types.specs.Groups.{Grouped}
use Rattle.rr_types.specs.Promises.{take_on_all, all_fit}
use Rattle.rr_disk.specs.declared.area.Area.{Area}
use Rattle.rr_disk.specs.declared.area.Area.TheVariants.{First, Second}
use Rattle.rr_frame.specs.declared.version.Version.{Version}
use Rattle.rr_frame.specs.declared.version.Version.TheVariants.{One, Two}
use Rattle.rr_frame.specs.Numbers.{number_in}
use Rattle.rr_frame.specs.Snapshots.{Snapped}
use Rattle.rr_frame.specs.SnapshotFormat.{snapshot_in}
use Rattle.rr_frame.specs.GroupFormat.{group_in}

-- what an active area holds: its epoch, the promise of the facts, the number of the next one, and the place of the last gate
pub record Content : Type 0 where
  pub epoch : ℕ
  pub promise : List Entry
  pub next : ℕ
  pub gate : ℕ

-- what the two areas of a disk stand for
pub data Found : Type 0 where
  -- no area is formatted
  Unformatted : Found
  -- an open gate stands at this offset before bytes that are no lawful frame there
  Broken : Area → ℕ → Found
  -- this area is active
  Active : Area → Content → Found
  -- this area is active, and of version 1
  Outdated : Area → Content → Found

-- behind an open gate: the payload, and the bytes from the next gate on; None where the frame isn't whole
abbrev pub frame_behind : List ℕ → Option (List ℕ × List ℕ)
frame_behind bytes =
    if nat_le 4 (length bytes) && nat_lt (number_in 4 bytes) (length (drop 4 bytes))
    then Some (take (number_in 4 bytes) (drop 4 bytes), drop (number_in 4 bytes) (drop 4 bytes))
    else None

-- the content after a group, which begins with the next fact and whose facts fit the promise before them
abbrev pub with_group : ℕ → ℕ → Grouped → ℕ → Content → Option Content
with_group n p g size c =
    if g.serial == c.next && all_fit n p c.promise g.facts
    then Some (record c { promise = take_on_all c.promise g.facts; next = c.next + length g.facts; gate = c.gate + 5 + size }) else None

-- the content after the group of this payload, in an area of this version; None where it is no lawful group
abbrev pub after_payload : Version → ℕ → ℕ → Content → List ℕ → Option Content
after_payload version n p c payload = elim (group_in version payload) [ Err offset ↦ None | Ok g ↦ with_group n p g (length payload) c ]

-- the content after the frame behind an open gate, and the bytes from the next gate on; None where it is no lawful group
abbrev pub after_frame : Version → ℕ → ℕ → Content → List ℕ → Option (Content × List ℕ)
after_frame version n p c bytes =
    elim (frame_behind bytes)
    [ None ↦ None | Some x ↦ elim (after_payload version n p c x.0) [ None ↦ None | Some d ↦ Some (d, x.1) ] ]

-- the content of an area from a gate on, by at most so many frames; Err where a frame behind this gate is no lawful group
abbrev pub content_from : Version → ℕ → ℕ → ℕ → Content → List ℕ → Result Content ℕ
content_from version frames n p c [] = Ok c
content_from version zero n p c (gate ∷ bytes) = Ok c
content_from version (suc frames) n p c (gate ∷ bytes) =
    if gate == 165 then elim (after_frame version n p c bytes) [ None ↦ Err c.gate | Some d ↦ content_from version frames n p d.0 d.1 ] else Ok c

-- an area is formatted when it has two bytes and the first is an open gate
abbrev pub is_formatted : List ℕ → Bool
is_formatted [] = false
is_formatted (gate ∷ bytes) = gate == 165 && nat_le 1 (length bytes)

-- the first frame of an area: none, a fault, or a snapshot of the node, with its version, the content that it begins and the bytes from the next gate on
pub data Front : Type 0 where
  Blank : Front
  Faulty : Front
  Begins : Version → Content → List ℕ → Front

-- a snapshot counts where it is of this node of as many nodes
abbrev pub of_node : ℕ → ℕ → Version → Snapped → ℕ → List ℕ → Front
of_node n p version s size rest =
    if s.node == p && s.nodes == n then Begins version (record { epoch = s.epoch; promise = s.entries; next = s.next; gate = 5 + size }) rest else Faulty

-- the first frame of a formatted area
abbrev pub front_behind : ℕ → ℕ → Option (List ℕ × List ℕ) → Front
front_behind n p None = Faulty
front_behind n p (Some (payload, rest)) = elim (snapshot_in payload) [ Err offset ↦ Faulty | Ok x ↦ of_node n p x.0 x.1 (length payload) rest ]

-- the first frame of an area
abbrev pub front_of : ℕ → ℕ → List ℕ → Front
front_of n p bytes = if is_formatted bytes then front_behind n p (frame_behind (drop 1 bytes)) else Blank

-- the content of an active area behind its snapshot
unfoldable pub content_behind : Version → ℕ → ℕ → Content → List ℕ → Result Content ℕ
content_behind version n p c rest = content_from version (length rest) n p c rest

-- an active area of a version with its content
abbrev pub active_in : Version → Area → Content → Found
active_in One area c = Outdated area c
active_in Two area c = Active area c

-- an active area of a version with its content, or broken at a later frame
abbrev pub active : Version → Area → Result Content ℕ → Found
active version area (Ok c) = active_in version area c
active version area (Err offset) = Broken area offset

-- the first frames of both areas decide which is active: the formatted one of the greatest epoch
abbrev pub found_by : ℕ → ℕ → Front → Front → Found
found_by n p Faulty second = Broken First 0
found_by n p Blank Faulty = Broken Second 0
found_by n p Blank Blank = Unformatted
found_by n p Blank (Begins v c rest) = active v Second (content_behind v n p c rest)
found_by n p (Begins v c rest) Faulty = Broken Second 0
found_by n p (Begins v c rest) Blank = active v First (content_behind v n p c rest)
found_by n p (Begins v c rest) (Begins w d rest_2) =
    if c.epoch == d.epoch then Broken Second 0
    else (if nat_lt d.epoch c.epoch then active v First (content_behind v n p c rest) else active w Second (content_behind w n p d rest_2))

-- what the areas of node p of n stand for
unfoldable pub found : ℕ → ℕ → List ℕ → List ℕ → Found
found n p first second = found_by n p (front_of n p first) (front_of n p second)
