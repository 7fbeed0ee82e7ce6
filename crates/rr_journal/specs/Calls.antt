-- The device calls that a node makes.
use Rattle.std.specs.Prelude.{ℕ, ◌+◌, Bool, true, ◌==◌, if◌then◌else◌, List, [], ◌∷◌, ◌++◌, length}
use Rattle.rr_disk.specs.declared.area.Area.{Area}
use Rattle.rr_disk.specs.declared.area.Area.TheVariants.{First}
use Rattle.rr_disk.specs.Areas.{Areas, extent_of, replaced, written, loosened, synced}
use Rattle.rr_disk.specs.Failing.{failing_bytes}
use Rattle.rr_frame.specs.Numbers.{number_bytes}
use Rattle.rr_frame.specs.SnapshotFormat.{snapshot_bytes}

-- a device call
pub data Call : Type 0 where
  Read : Area → Call
  Write : Area → ℕ → List ℕ → Call
  Sync : Call

-- both areas after a call that succeeded
abbrev pub after_call : Call → Areas → Areas
after_call (Read area) both = both
after_call (Write area at bytes) both = replaced both area (written at bytes (extent_of both area))
after_call Sync both = synced both

-- both areas after a call for which memory was wanting: a write leaves what there is of its range loose
abbrev pub after_starved : Call → Areas → Areas
after_starved (Read area) both = both
after_starved (Write area at bytes) both = replaced both area (loosened at (length bytes) (extent_of both area))
after_starved Sync both = both

-- both areas after a failing call: a write leaves its fill, or its bytes where that is empty
abbrev pub after_failing : List ℕ → Call → Areas → Areas
after_failing fill (Read area) both = both
after_failing fill (Write area at bytes) both = replaced both area (written at (failing_bytes fill bytes) (extent_of both area))
after_failing fill Sync both = both

-- a frame's bytes behind its gate: length, payload, the closed next gate
abbrev pub frame_bytes : List ℕ → List ℕ
frame_bytes payload = number_bytes 4 (length payload) ++ payload ++ 0 ∷ []

-- the calls that append a frame behind a gate: the frame, a sync, the gate's opening, a sync
abbrev pub append_calls : Area → ℕ → List ℕ → List Call
append_calls area gate payload = Write area (gate + 1) (frame_bytes payload) ∷ Sync ∷ Write area gate (165 ∷ []) ∷ Sync ∷ []

-- an area that is empty or looks formatted is closed first
abbrev pub must_close : List ℕ → Bool
must_close [] = true
must_close (gate ∷ bytes) = gate == 165

-- the calls that write an area anew with a snapshot of these bytes, by whether it has to be closed first
abbrev pub rewrite_calls : Area → Bool → List ℕ → List Call
rewrite_calls area closes payload = (if closes then Write area 0 (0 ∷ []) ∷ Sync ∷ [] else []) ++ append_calls area 0 payload

-- the calls that format area 0 with an empty snapshot of epoch 1 for node p of n
abbrev pub format_calls : ℕ → ℕ → List ℕ → List Call
format_calls n p first = rewrite_calls First (must_close first) (snapshot_bytes (record { node = p; nodes = n; epoch = 1; next = 0; entries = [] }))
