-- A step of an opening in place, as one that takes the opening and gives it back.
use Rattle.std.specs.Prelude.{◌≡◌, ◌^◌, ◌<◌, length, false, Option, None, Some, Result, Ok, Err}
use Rattle.rr_types.specs.declared.refusal.Refusal.{Refusal}
use Rattle.rr_disk.specs.Areas.{Areas}
use Rattle.rr_journal.specs.declared.journal.Journal.{Journal}
use Rattle.rr_journal.specs.declared.opened.Opened.{Opened}
use Rattle.rr_journal.specs.declared.opening.End.{End}
use Rattle.rr_journal.specs.declared.opening.Progress as code
use Rattle.rr_journal.specs.declared.opening.Progress.TheVariants as progress
use Rattle.rr_journal.specs.declared.opening.Stepped.{Stepped}
use Rattle.rr_journal.specs.declared.opening.Stepped.TheVariants as stepped
use Rattle.rr_journal.specs.Fronts.{front_beside}
use Rattle.rr_journal.specs.Openings.{Settling}
use Rattle.rr_journal.specs.OpeningStates.{OpeningState}
use Rattle.rr_journal.specs.OpeningTable.{OpensAny}
use Rattle.rr_journal.specs.Phases.{phase_of}

-- the journal of an opening that found this end
abbrev pub journal_of : {D : Type 0} → OpeningState D → End → Journal D
journal_of o end = record {
  disk = o.disk;
  nodes = o.nodes;
  node = o.node;
  area = end.area;
  epoch = end.epoch;
  gate = end.gate;
  next = end.next;
  failed = false;
  busy = false;
  closes_other = front_beside end.area o.fronts;
}

-- the end of its opening
abbrev pub opened_of : {D : Type 0} → OpeningState D → End → Opened
opened_of o end = record { nodes = o.nodes; node = o.node; promise = end.promise; next = end.next }

-- what an opening comes to by the end that it has found; without one it goes on
abbrev pub ended_by : {D : Type 0} → OpeningState D → Option End → code.Progress D
ended_by o None = progress.More o
ended_by o (Some end) = progress.Done (journal_of o end) (opened_of o end)

-- what a step in place left and answered, as a step's answer
abbrev pub as_progress : {D : Type 0} → OpeningState D → Result Stepped Refusal → Result (code.Progress D) (Refusal × D)
as_progress o (Ok stepped.More) = Ok (progress.More o)
as_progress o (Ok stepped.Ended) = Ok (ended_by o o.end)
as_progress o (Err e) = Err (e, o.disk)

-- an opening that stands at its beginning
abbrev pub Begins : {D : Type 0} → (D → Areas) → OpeningState D → Type 0
Begins areas o = (phase_of o.phase ≡ Settling)
    × (length (areas o.disk).first.cells < 2 ^ 64 → length (areas o.disk).second.cells < 2 ^ 64 → OpensAny o.nodes o.node o.phase (areas o.disk))

-- so does one that was refused, or has found its end
abbrev pub BeginsAgain : {D : Type 0} → (D → Areas) → OpeningState D → Result Stepped Refusal → Type 0
BeginsAgain areas o (Ok stepped.More) = Unit {0}
BeginsAgain areas o (Ok stepped.Ended) = Begins areas o
BeginsAgain areas o (Err e) = Begins areas o
