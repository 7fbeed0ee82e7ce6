-- The device calls by which an area is written anew, stage by stage.
use Rattle.std.specs.Prelude.{ℕ, Bool, true, false, List, [], ◌∷◌, Option, None, Some, Result}
use Rattle.rr_types.specs.declared.refusal.Refusal.{Refusal}
use Rattle.rr_disk.specs.declared.area.Area.{Area}
use Rattle.rr_journal.specs.declared.stage.Stage.{Stage}
use Rattle.rr_journal.specs.declared.stage.Stage.TheVariants.{Closing, SettlingClosed, WritingBody, SettlingBody, OpeningGate, SettlingGate}
use Rattle.rr_journal.specs.Calls.{Call, Read, Write, Sync}

-- an area that is empty or looks formatted is closed first
abbrev pub first_stage : Bool → Stage
first_stage closes = elim closes [ true ↦ Closing | false ↦ WritingBody ]

-- the device call that is due in a stage, where this is written behind the gate of an area
abbrev pub call_at : Area → List ℕ → Stage → Call
call_at area body Closing = Write area 0 (0 ∷ [])
call_at area body SettlingClosed = Sync
call_at area body WritingBody = Write area 1 body
call_at area body SettlingBody = Sync
call_at area body OpeningGate = Write area 0 (165 ∷ [])
call_at area body SettlingGate = Sync

-- the device calls that are left from a stage on
abbrev pub calls_from : Area → List ℕ → Stage → List Call
calls_from area body Closing = Write area 0 (0 ∷ []) ∷ Sync ∷ Write area 1 body ∷ Sync ∷ Write area 0 (165 ∷ []) ∷ Sync ∷ []
calls_from area body SettlingClosed = Sync ∷ Write area 1 body ∷ Sync ∷ Write area 0 (165 ∷ []) ∷ Sync ∷ []
calls_from area body WritingBody = Write area 1 body ∷ Sync ∷ Write area 0 (165 ∷ []) ∷ Sync ∷ []
calls_from area body SettlingBody = Sync ∷ Write area 0 (165 ∷ []) ∷ Sync ∷ []
calls_from area body OpeningGate = Write area 0 (165 ∷ []) ∷ Sync ∷ []
calls_from area body SettlingGate = Sync ∷ []

-- the stage behind it; None behind the last
abbrev pub stage_behind : Stage → Option Stage
stage_behind Closing = Some SettlingClosed
stage_behind SettlingClosed = Some WritingBody
stage_behind WritingBody = Some SettlingBody
stage_behind SettlingBody = Some OpeningGate
stage_behind OpeningGate = Some SettlingGate
stage_behind SettlingGate = None

-- a write or a sync gave this, by what the disk's calls exactly give
abbrev pub Gave : {D : Type 0} → (D → Area → ℕ → List ℕ → Result (Unit {0}) Refusal → D → Type 0)
    → (D → Result (Unit {0}) Refusal → D → Type 0) → Call → D → Result (Unit {0}) Refusal → D → Type 0
Gave of_write of_sync (Read area) old result new = ⊥
Gave of_write of_sync (Write area at bytes) old result new = of_write old area at bytes result new
Gave of_write of_sync Sync old result new = of_sync old result new
