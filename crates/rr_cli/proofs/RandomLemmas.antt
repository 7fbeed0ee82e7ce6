-- What is read of the text of a lively schedule is that schedule, unless memory runs out.
use Rattle.std.proofs.Common.{◌≡◌, ℕ, List, Result, Ok, Err, Some, true, subst}
use Rattle.std.specs.Prelude.{IfOk, IfErr, MatchResult}
use Rattle.rr_types.specs.declared.refusal.Refusal.{Refusal}
use Rattle.rr_types.specs.declared.refusal.Refusal.TheVariants.{OutOfMemory}
use Rattle.rr_text.specs.Scheduled.{Scheduled, IsSchedule}
use Rattle.rr_text.specs.ScheduleTexts.{schedule_text}
use Rattle.rr_lively.specs.Lively.{IsLivelySchedule}
use Rattle.rr_cli.specs.Randoms.{IsDrawnText}

pub read_so : (n seed steps faults : ℕ) (text : List ℕ) (r : Result Scheduled Refusal) → IsLivelySchedule n steps text → IfOk r (λ s. IsSchedule s × (text ≡ schedule_text s)) → IfOk r (λ s. IsDrawnText true (Some faults) n seed steps (schedule_text s))
read_so n seed steps faults text (Ok s) lively found = subst (λ (t : List ℕ). IsLivelySchedule n steps t) found.1 lively
read_so n seed steps faults text (Err e) lively found = tt

pub unread_so : (n steps : ℕ) (text : List ℕ) (r : Result Scheduled Refusal) → IsLivelySchedule n steps text → ((s : Scheduled) → IsSchedule s → text ≡ schedule_text s → MatchResult r (λ t. t ≡ s) (λ e. e ≡ OutOfMemory)) → IfErr r (λ e. e ≡ OutOfMemory)
unread_so n steps text (Ok s) lively only = tt
unread_so n steps text (Err e) lively only = only lively.2.schedule lively.2.lawful lively.2.told
