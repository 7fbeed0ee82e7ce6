-- Why a group isn't flushed.
use Rattle.std.specs.Prelude.{◌≡◌, ℕ, ◌+◌, ◌++◌, List, length, true, false}
use Rattle.rr_types.specs.declared.refusal.Refusal.{Refusal}
use Rattle.rr_types.specs.declared.fact.Fact.{Fact}
use Rattle.rr_types.specs.Groups.{Grouped}
use Rattle.rr_disk.specs.Areas.{Areas}
use Rattle.rr_disk.specs.Crash.{Images, restarted}
use Rattle.rr_frame.specs.GroupFormat.{group_bytes}
use Rattle.rr_types.specs.Counts.{Grew}
use Rattle.rr_journal.specs.Calls.{frame_bytes}
use Rattle.rr_journal.specs.Journals.{IsOver}
use Rattle.rr_journal.specs.declared.journal.Journal.{Journal}
use Rattle.rr_turn.specs.declared.flusher.Unflushed.{Unflushed}
use Rattle.rr_turn.specs.declared.flusher.Unflushed.TheVariants.{Refused, Failed}

-- if no flush of it began, this holds of the refusal and of the group that comes back
abbrev pub IfRefused : Unflushed → (Refusal → Grouped → Type 0) → Type 0
IfRefused (Refused e g) P = P e g
IfRefused (Failed e) P = Unit {0}

-- if its flush failed, this holds of the refusal
abbrev pub IfFailed : Unflushed → (Refusal → Type 0) → Type 0
IfFailed (Refused e g) P = Unit {0}
IfFailed (Failed e) P = P e

-- a device call has failed, and the journal has taken note
abbrev pub HasFailed : {D : Type 0} → (D → ℕ) → Journal D → Journal D → Type 0
HasFailed faults old new = (old.failed ≡ false) × (new.failed ≡ true) × Grew (faults old.disk) (faults new.disk)

-- the journal appends behind the group now: its last gate and its next number are those behind it
abbrev pub IsBehind : {D : Type 0} → Grouped → Journal D → Journal D → Type 0
IsBehind group old new =
    new ≡ record old {
      disk = new.disk;
      gate = old.gate + length (frame_bytes (group_bytes group));
      next = group.serial + length group.facts;
      busy = false;
    }

-- the journal's disk holds these facts and more, and the journal appends behind them
abbrev pub HasMore : {D : Type 0} → (D → Areas) → Journal D → List Fact → List Fact → Type 0
HasMore areas journal facts more = (images : Images) × (areas journal.disk ≡ restarted images) × IsOver journal images (facts ++ more)
