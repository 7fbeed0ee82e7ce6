-- Bytes that are a schedule or a tape are told apart, and a tape that is shown ends as defined.
use Rattle.std.proofs.Common.{◌≡◌, ◌≢◌, ℕ, List, Ok, refl, sym, subst}
use Rattle.rr_types.specs.declared.refusal.Refusal.{Refusal}
use Rattle.rr_types.specs.declared.refusal.Refusal.TheVariants as because
use Rattle.rr_text.specs.Lines.{IsFault}
use Rattle.rr_text.specs.Scheduled.{Scheduled, IsSchedule, IsEvent}
use Rattle.rr_text.specs.ScheduleTexts.{schedule_text, event_line}
use Rattle.rr_text.specs.Taped.{Taped, IsTape, IsTapeEvent}
use Rattle.rr_text.specs.TapeTexts.{tape_text, tape_line}
use Rattle.rr_audit.specs.Audits.{IsVerdict}
use Rattle.rr_audit.specs.declared.given.Given.{Given}
use Rattle.rr_audit.specs.declared.auditing.Verdict.TheVariants.{Yes, No}
use Rattle.rr_stream.specs.Streams.{Printing}
use Rattle.rr_cli.specs.Ends.{PrintsShown, EndsOnTaped, taped, strange, untaped}
use Rattle.rr_cli.specs.Recognised.{IsRecognised, IsTextOf}
use Rattle.rr_cli.specs.Refusals.{status_of}
use Rattle.rr_cli.specs.Shown.{ShowsTape}
use Rattle.rr_cli.specs.declared.taped.TapeView.{TapeView}
use Rattle.rr_cli.specs.declared.recognising.Recognised.TheVariants as are
use Rattle.rr_cli.specs.declared.refusals.TextKind.{TextKind}

-- bytes that are no text of a kind end with 3, memory aside
pub fault_status : {X : Type 0} (Fits : ℕ → X → Type 0) (line : X → List ℕ) (bytes : List ℕ) (e : Refusal) → IsFault Fits line bytes e → e ≢ because.OutOfMemory → status_of e ≡ 3
fault_status Fits line bytes because.OutOfMemory fault other = absurd (other refl)
fault_status Fits line bytes because.Device fault other = absurd fault
fault_status Fits line bytes (because.Damaged area offset) fault other = absurd fault
fault_status Fits line bytes because.Failed fault other = absurd fault
fault_status Fits line bytes because.Down fault other = absurd fault
fault_status Fits line bytes because.BadNodes fault other = refl
fault_status Fits line bytes because.BadName fault other = absurd fault
fault_status Fits line bytes because.BadValue fault other = absurd fault
fault_status Fits line bytes because.ListFull fault other = absurd fault
fault_status Fits line bytes because.RoundsOut fault other = absurd fault
fault_status Fits line bytes (because.Malformed offset) fault other = absurd fault
fault_status Fits line bytes because.StrangeMark fault other = absurd fault
fault_status Fits line bytes because.Busy fault other = absurd fault
fault_status Fits line bytes (because.BadEvent number) fault other = refl
fault_status Fits line bytes because.SeatsTaken fault other = absurd fault
fault_status Fits line bytes because.TooLarge fault other = absurd fault
fault_status Fits line bytes (because.AuditNo index) fault other = absurd fault
fault_status Fits line bytes because.NoGuard fault other = absurd fault

-- bytes that have a fault as both are neither, by the fault of either
pub told_as_schedule : (bytes : List ℕ) (kind : TextKind) (e f : Refusal) → IsFault IsEvent event_line bytes e → e ≢ because.OutOfMemory → IsFault IsTapeEvent tape_line bytes f → f ≢ because.OutOfMemory
    → IsRecognised bytes (Ok (are.Neither kind e))
told_as_schedule bytes kind e f as_one no_memory as_other no_other =
    (record { refusal = e; fault = as_one; other = no_memory }, record { refusal = f; fault = as_other; other = no_other }, fault_status IsEvent event_line bytes e as_one no_memory)

pub told_as_tape : (bytes : List ℕ) (kind : TextKind) (e f : Refusal) → IsFault IsEvent event_line bytes e → e ≢ because.OutOfMemory → IsFault IsTapeEvent tape_line bytes f → f ≢ because.OutOfMemory
    → IsRecognised bytes (Ok (are.Neither kind f))
told_as_tape bytes kind e f as_one no_memory as_other no_other =
    (record { refusal = e; fault = as_one; other = no_memory }, record { refusal = f; fault = as_other; other = no_other }, fault_status IsTapeEvent tape_line bytes f as_other no_other)

-- bytes that are read so are a tape, or a schedule
pub is_tape : (bytes : List ℕ) (e : Refusal) (tape : Taped) → IsFault IsEvent event_line bytes e → e ≢ because.OutOfMemory → IsTape tape × (bytes ≡ tape_text tape)
    → IsRecognised bytes (Ok (are.Tape tape))
is_tape bytes e tape fault other read = (record { refusal = e; fault = fault; other = other }, record { lawful = read.0; read = read.1 })

pub is_schedule : (bytes : List ℕ) (schedule : Scheduled) → IsSchedule schedule × (bytes ≡ schedule_text schedule) → IsRecognised bytes (Ok are.Schedule)
is_schedule bytes schedule read = record { schedule = schedule; lawful = read.0; read = read.1 }

-- ---- a tape that is shown

-- its text was printed
pub taped_ends : (what : TapeView) (bytes : List ℕ) (tape : Taped) (count : ℕ) (text : List ℕ) (status : ℕ) (old new : Printing) → IsTextOf tape bytes → IsVerdict tape.nodes tape.events (Yes count) → ShowsTape what tape text
    → PrintsShown what text status old new → EndsOnTaped what bytes status old new
taped_ends what bytes tape count text status old new of verdict shows prints = taped tape text of verdict.1 verdict.2 shows prints

-- an event of it isn't next
pub strange_ends : (what : TapeView) (bytes : List ℕ) (tape : Taped) (number p : ℕ) (given : Given) (status : ℕ) (old new : Printing) → IsTextOf tape bytes → IsVerdict tape.nodes tape.events (No number p given)
    → status ≡ 7 → new ≡ old → EndsOnTaped what bytes status old new
strange_ends what bytes tape number p given status old new of verdict is same = strange tape number of verdict is same

-- memory was wanting
pub wanting_ends : (what : TapeView) (bytes : List ℕ) (e : Refusal) (status : ℕ) (old new : Printing) → e ≡ because.OutOfMemory → status ≡ status_of e → new ≡ old → EndsOnTaped what bytes status old new
wanting_ends what bytes e status old new is status_is same = untaped e (subst (λ (r : Refusal). IsFault IsTapeEvent tape_line bytes r) (sym is) tt) status_is same
