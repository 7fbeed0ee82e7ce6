-- What a step of an opening answers.
use Rattle.std.specs.Prelude.{◌≡◌, ◌⊎◌, ℕ, ◌+◌, List, Result, Ok, Err, Vec, false}
use Rattle.std.specs.declared.alloc.Global.{Global}
use Rattle.rr_types.specs.declared.refusal.Refusal.{Refusal}
use Rattle.rr_types.specs.declared.refusal.Refusal.TheVariants.{OutOfMemory}
use Rattle.rr_disk.specs.declared.area.Area.{Area}
use Rattle.rr_frame.specs.Snapshots.{IsSnapshot}
use Rattle.rr_journal.specs.declared.opening.Next as code_3
use Rattle.rr_journal.specs.declared.opening.Next.TheVariants as next
use Rattle.rr_journal.specs.declared.opening.Progress as code_2
use Rattle.rr_journal.specs.declared.opening.Progress.TheVariants as progress
use Rattle.rr_journal.specs.Openings.{Done, Refused, due_call, after_opening_call, Goes, Opens, Stops}
use Rattle.rr_journal.specs.OpeningStates.{OpeningState, IsOwn}
use Rattle.rr_journal.specs.Phases.{phase_of, TakesMemory}

module _ {D : Type 0} (of_read : D → Area → ℕ → ℕ → Result (Vec ℕ Global) Refusal → D → Type 0)
    (of_write : D → Area → ℕ → List ℕ → Result (Unit {0}) Refusal → D → Type 0)
    (of_sync : D → Result (Unit {0}) Refusal → D → Type 0) where
  -- a step makes the device call that is due, and answers what comes behind it: more calls, or an open disk; or it is
  -- refused, by the call, for memory, or for what was found, and hands the disk back
  abbrev pub Steps : OpeningState D → Result (code_2.Progress D) (Refusal × D) → Type 0
  Steps o (Ok (progress.More next)) = (v : Vec ℕ Global) × Done of_read of_write of_sync (due_call (phase_of o.phase)) o.disk v next.disk
      × (after_opening_call o.nodes o.node v.items (phase_of o.phase) ≡ Goes (phase_of next.phase)) × (next.nodes ≡ o.nodes) × (next.node ≡ o.node)
  Steps o (Ok (progress.Done journal opened)) = (v : Vec ℕ Global) × Done of_read of_write of_sync (due_call (phase_of o.phase)) o.disk v journal.disk
      × (after_opening_call o.nodes o.node v.items (phase_of o.phase)
      ≡ Opens journal.area
      (record { epoch = journal.epoch; promise = opened.promise; next = opened.next; gate = journal.gate }))
      × (journal
      ≡ record {
        disk = journal.disk;
        nodes = o.nodes;
        node = o.node;
        area = journal.area;
        epoch = journal.epoch;
        gate = journal.gate;
        next = opened.next;
        failed = false;
        busy = false;
        closes_other = journal.closes_other;
      })
      × (opened.nodes ≡ o.nodes) × (opened.node ≡ o.node)
  Steps o (Err (e, disk)) = Refused of_read of_write of_sync (due_call (phase_of o.phase)) o.disk e disk
      ⊎ ((v : Vec ℕ Global) × Done of_read of_write of_sync (due_call (phase_of o.phase)) o.disk v disk
      × (((e ≡ OutOfMemory) × TakesMemory (phase_of o.phase)) ⊎ (after_opening_call o.nodes o.node v.items (phase_of o.phase) ≡ Stops e)))

-- what comes behind a device call of an opening of node p of n writes a snapshot of that node; or such a snapshot with the next epoch can hold its end
abbrev pub MayGoOn : ℕ → ℕ → code_3.Next → Type 0
MayGoOn n p (next.Phase phase) = IsOwn n p phase
MayGoOn n p (next.Open area epoch gate promise number) = IsSnapshot (record { node = p; nodes = n; epoch = epoch + 1; next = number; entries = promise })

-- where an opening ends, a snapshot of the next epoch can hold the promise
abbrev pub MaySnap : {D : Type 0} → code_2.Progress D → Type 0
MaySnap (progress.More next) = Unit {0}
MaySnap (progress.Done journal opened) =
    IsSnapshot
    (record {
      node = journal.node;
      nodes = journal.nodes;
      epoch = journal.epoch + 1;
      next = opened.next;
      entries = opened.promise;
    })
