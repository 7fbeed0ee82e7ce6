-- Device calls of a node's disk, by whether a failure is due.
use Rattle.std.proofs.Common.{◌≡◌, ◌⊎◌, inl, inr, ℕ, ◌+◌, ◌<◌, ◌≤◌, Bool, true, List, length, Option, None, Some, Result, Ok, Err, sym, ap, subst, ◌∙◌, if◌then◌else◌}
use Rattle.std.specs.Prelude.{MatchOption}
use Rattle.std.proofs.lemmas.Bool.{lt-ltb}
use Rattle.rr_types.specs.declared.refusal.Refusal.{Refusal}
use Rattle.rr_types.specs.declared.refusal.Refusal.TheVariants as because
use Rattle.rr_disk.specs.declared.area.Area.{Area}
use Rattle.rr_disk.specs.Areas.{extent_of, replaced, written, loosened, synced}
use Rattle.rr_types.specs.Counts.{counted}
use Rattle.rr_disk.specs.Failing.{FailingRead, FailingWrite, FailingSync, failing_bytes}
use Rattle.rr_disk.specs.Memory.{MemoryState, MemoryRead, MemoryWrite, MemorySync}
use Rattle.rr_disk.proofs.OverMemory.{failing_in_memory}
use Rattle.rr_journal.specs.Calls.{Call, Read, Write, Sync, after_call, after_starved, after_failing}
use Rattle.rr_journal.specs.Openings.{Refused}
use Rattle.rr_types.specs.declared.event.NodeEvent.TheVariants as at
use Rattle.rr_node.specs.Seats.{Seat, seat_step, fall, grows, starve_call, after_failing_starved}
use Rattle.rr_node.specs.Views.{NodeDisk}
use Rattle.rr_node.proofs.FrontLaws.{Reaches}
use Rattle.rr_journal.specs.Stages.{Gave}

-- where no failure is due a call goes through to the disk below
pub passed_on : (due : Option (List ℕ)) (A : Type 0) (B : List ℕ → Type 0) → due ≡ None → MatchOption due A B → A
passed_on due A B calm h = subst (λ (o : Option (List ℕ)). MatchOption o A B) calm h

-- a sync that was done
pub synced_by : (old new : NodeDisk) → old.due ≡ None → FailingSync MemorySync old (Ok tt) new → (new.due ≡ None) × (new.below.areas ≡ synced old.below.areas) × Reaches Sync old.below.areas × (new.calls ≡ counted old.calls)
synced_by old new calm h =
    let x = passed_on old.due _ _ calm h in
    (ap (λ (d : NodeDisk). d.due) x.1, ap (λ (m : MemoryState). m.areas) x.0.1, tt, ap (λ (d : NodeDisk). d.calls) x.1)

-- a write that was done
pub written_by : (old new : NodeDisk) (area : Area) (from : ℕ) (bytes : List ℕ) → old.due ≡ None → FailingWrite MemoryWrite old area from bytes (Ok tt) new → (new.due ≡ None) × (new.below.areas ≡ after_call (Write area from bytes) old.below.areas) × Reaches (Write area from bytes) old.below.areas × (new.calls ≡ counted old.calls)
written_by old new area from bytes calm h =
    let x = passed_on old.due _ _ calm h in
    (ap (λ (d : NodeDisk). d.due) x.1, ap (λ (m : MemoryState). m.areas) x.0.1, x.0.0, ap (λ (d : NodeDisk). d.calls) x.1)

-- a write for which memory was wanting
pub starved_by : (old new : NodeDisk) (area : Area) (from : ℕ) (bytes : List ℕ) → old.due ≡ None → FailingWrite MemoryWrite old area from bytes (Err because.Device) new → (new.due ≡ None) × (new.below.areas ≡ after_starved (Write area from bytes) old.below.areas) × (new.calls ≡ counted old.calls)
starved_by old new area from bytes calm h =
    let x = passed_on old.due _ _ calm h in
    (ap (λ (d : NodeDisk). d.due) x.1, ap (λ (m : MemoryState). m.areas) x.0.2, ap (λ (d : NodeDisk). d.calls) x.1)

-- it makes its area longer
pub starved_grows : (old new : NodeDisk) (area : Area) (from : ℕ) (bytes : List ℕ) → old.due ≡ None → FailingWrite MemoryWrite old area from bytes (Err because.Device) new → grows (Write area from bytes) old.below.areas ≡ true
starved_grows old new area from bytes calm h = lt-ltb _ _ (passed_on old.due _ _ calm h).0.1

-- so it fails the node
pub starved_falls : (call : Call) (seat : Seat) → grows call seat.areas ≡ true → starve_call call seat ≡ fall after_starved call seat
starved_falls call seat longer = ap (λ (b : Bool). if b then fall after_starved call seat else seat_step at.Device seat) longer

-- where a failure is due, a write fails, and leaves its fill, or its range loose where it makes its area longer and memory is wanting
pub write_fails : (fill : List ℕ) (area : Area) (from : ℕ) (bytes : List ℕ) (old new : NodeDisk) (r : Result (Unit {0}) Refusal) → FailingWrite MemoryWrite (record old { due = Some fill }) area from bytes r new
    → (new.due ≡ None) × ((new.below.areas ≡ after_failing fill (Write area from bytes) old.below.areas) ⊎ (new.below.areas ≡ after_failing_starved fill (Write area from bytes) old.below.areas)) × (new.calls ≡ counted old.calls)
write_fails fill area from bytes old new r (failed, fallen, (mid, first, gave, rest)) = (ap (λ (d : NodeDisk). d.due) fallen, by (failing_in_memory area from bytes fill old.below mid new.below first gave rest), ap (λ (d : NodeDisk). d.calls) fallen)
  where
    by : ((from ≤ length (extent_of old.below.areas area).cells) × (new.below.areas ≡ replaced old.below.areas area (written from (failing_bytes fill bytes) (extent_of old.below.areas area))))
        ⊎ ((length (extent_of old.below.areas area).cells < from + length bytes) × (new.below.areas ≡ replaced old.below.areas area (loosened from (length bytes) (extent_of old.below.areas area))))
        → (new.below.areas ≡ after_failing fill (Write area from bytes) old.below.areas) ⊎ (new.below.areas ≡ after_failing_starved fill (Write area from bytes) old.below.areas)
    by (inl x) = inl x.1
    by (inr x) = inr (x.1 ∙ sym (ap (λ (b : Bool). if b then after_starved (Write area from bytes) old.below.areas else after_failing fill (Write area from bytes) old.below.areas) (lt-ltb _ _ x.0)))

-- where a failure is due, a device call fails
pub call_fails : (fill : List ℕ) (call : Call) (old new : NodeDisk) → Refused (FailingRead MemoryRead) (FailingWrite MemoryWrite) (FailingSync MemorySync) call (record old { due = Some fill }) because.Device new
    → (new.due ≡ None) × ((new.below.areas ≡ after_failing fill call old.below.areas) ⊎ (new.below.areas ≡ after_failing_starved fill call old.below.areas)) × (new.calls ≡ counted old.calls)
call_fails fill (Read area) old new h = (ap (λ (d : NodeDisk). d.due) h.1, inl (ap (λ (d : NodeDisk). d.below.areas) h.1), ap (λ (d : NodeDisk). d.calls) h.1)
call_fails fill (Write area from bytes) old new h = write_fails fill area from bytes old new (Err because.Device) h
call_fails fill Sync old new h = (ap (λ (d : NodeDisk). d.due) h.1, inl (ap (λ (d : NodeDisk). d.below.areas) h.1), ap (λ (d : NodeDisk). d.calls) h.1)

-- a write or a sync that was done
pub gave_by : (call : Call) (old new : NodeDisk) → old.due ≡ None → Gave (FailingWrite MemoryWrite) (FailingSync MemorySync) call old (Ok tt) new → (new.due ≡ None) × (new.below.areas ≡ after_call call old.below.areas) × Reaches call old.below.areas × (new.calls ≡ counted old.calls)
gave_by (Read area) old new calm h = absurd h
gave_by (Write area from bytes) old new calm h = written_by old new area from bytes calm h
gave_by Sync old new calm h = synced_by old new calm h

-- where a failure is due, neither is
pub gave_not : (fill : List ℕ) (call : Call) (old new : NodeDisk) → Gave (FailingWrite MemoryWrite) (FailingSync MemorySync) call (record old { due = Some fill }) (Ok tt) new → ⊥
gave_not fill (Read area) old new h = h
gave_not fill (Write area from bytes) old new h = absurd (done h.0)
  where
    done : Path (Result (Unit {0}) Refusal) (Ok tt) (Err because.Device) → ⊥
    done e = cc
gave_not fill Sync old new h = absurd (done h.0)
  where
    done : Path (Result (Unit {0}) Refusal) (Ok tt) (Err because.Device) → ⊥
    done e = cc

-- and each fails
pub gave_failing : (fill : List ℕ) (call : Call) (old new : NodeDisk) → Gave (FailingWrite MemoryWrite) (FailingSync MemorySync) call (record old { due = Some fill }) (Err because.Device) new
    → (new.due ≡ None) × ((new.below.areas ≡ after_failing fill call old.below.areas) ⊎ (new.below.areas ≡ after_failing_starved fill call old.below.areas)) × (new.calls ≡ counted old.calls)
gave_failing fill (Read area) old new h = absurd h
gave_failing fill (Write area from bytes) old new h = write_fails fill area from bytes old new (Err because.Device) h
gave_failing fill Sync old new h = (ap (λ (d : NodeDisk). d.due) h.1, inl (ap (λ (d : NodeDisk). d.below.areas) h.1), ap (λ (d : NodeDisk). d.calls) h.1)
