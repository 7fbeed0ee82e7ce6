-- How a shell ends behind a talk.
use Rattle.std.proofs.Common.{◌≡◌, ◌⊎◌, ◌<◌, ℕ, Bool, List, [], ◌∷◌, length, map, Bor, Option, None, Some, Result, Ok, Err, inl, inr, refl, arith, ap₂, subst}
use Rattle.clap.specs.Words.{Text}
use Rattle.rr_types.specs.declared.refusal.Refusal.{Refusal}
use Rattle.rr_types.specs.declared.refusal.Refusal.TheVariants.{OutOfMemory, Device, Damaged, Failed, Down, BadNodes, BadName, BadValue, ListFull, RoundsOut, Malformed, StrangeMark, Busy, BadEvent, SeatsTaken, TooLarge, AuditNo, NoGuard}
use Rattle.rr_cli.specs.Refusals.{status_of}
use Rattle.rr_stream.specs.Streams.{Printing, Reading}
use Rattle.rr_shell.specs.declared.troubles.Trouble.{Trouble}
use Rattle.rr_shell.specs.declared.talking.Stop.{Stop}
use Rattle.rr_shell.specs.Talks.{Talks}
use Rattle.rr_run.specs.declared.disputes.Failure.{Failure}
use Rattle.rr_run.specs.declared.disputes.Failure.TheVariants.{Refused, Differing}
use Rattle.rr_run.specs.Shells.{IsRefusedBy, EndsOnTalk, shell_did, EndsOnShell, EndsOnLines, EndsOnEither, lines_text, spoken, talked, failed, broken_off}

pub ends_so : (json strict : Bool) (n first : ℕ) (from to : Reading) (old new : Printing) (said : Result (Option Trouble) Stop) (ran : Option Failure) (status : ℕ) → Talks shell_did json strict n first from to old new said → EndsOnTalk said ran status → EndsOnShell json strict n first from to status old new
ends_so json strict n first from to old new (Ok trouble) None status talks well = talked trouble talks well
ends_so json strict n first from to old new (Ok trouble) (Some (Refused refusal)) status talks is = failed trouble talks (refusal, is)
ends_so json strict n first from to old new (Ok trouble) (Some (Differing d)) status talks is = failed trouble talks (Damaged 0 0, is)
ends_so json strict n first from to old new (Err stop) ran status talks refused = broken_off talks refused

-- the status of a stream is that of a refusal
pub of_stream : (status : ℕ) → (status ≡ 5) ⊎ (status ≡ 6) → IsRefusedBy status
of_stream status (inl device) = (Device, device)
of_stream status (inr memory) = (OutOfMemory, memory)

-- a shell by words reads the input where there are no lines among them, and leaves it alone where there are
pub by_input : (json strict : Bool) (n first : ℕ) (lines : List (Bor Text)) (from to : Reading) (status : ℕ) (old new : Printing) → length lines < 1 → EndsOnShell json strict n first from to status old new → EndsOnEither json strict n first (map (λ s. s.now) lines) from to status old new
by_input json strict n first [] from to status old new none ends = ends
by_input json strict n first (line ∷ lines) from to status old new none ends = absurd (omega (arith, none))

pub by_lines : (json strict : Bool) (n first : ℕ) (lines : List (Bor Text)) (from : Reading) (status : ℕ) (old new : Printing) → 0 < length lines → EndsOnLines json strict n first (map (λ s. s.now) lines) status old new → EndsOnEither json strict n first (map (λ s. s.now) lines) from from status old new
by_lines json strict n first [] from status old new some ends = absurd (omega (arith, some))
by_lines json strict n first (line ∷ lines) from status old new some ends = (refl, ends)

-- the lines are spoken from a text that has them, and no call of it has failed
pub spoken_so : (json strict : Bool) (n first : ℕ) (lines : List Text) (text : List ℕ) (faults : ℕ) (to : Reading) (status : ℕ) (old new : Printing) → faults ≡ 0 → text ≡ lines_text lines → EndsOnShell json strict n first (record { remaining = Some text; faults = faults }) to status old new → EndsOnLines json strict n first lines status old new
spoken_so json strict n first lines text faults to status old new none is ends =
    spoken to (subst (λ (r : Reading). EndsOnShell json strict n first r to status old new) (ap₂ (λ (t : List ℕ) (f : ℕ). record { remaining = Some t; faults = f }) is none) ends)

-- no refusal ends well
pub never_well : (refusal : Refusal) → status_of refusal ≡ 0 → ⊥
never_well OutOfMemory well = omega arith
never_well Device well = omega arith
never_well (Damaged area offset) well = omega arith
never_well Failed well = omega arith
never_well Down well = omega arith
never_well BadNodes well = omega arith
never_well BadName well = omega arith
never_well BadValue well = omega arith
never_well ListFull well = omega arith
never_well RoundsOut well = omega arith
never_well (Malformed offset) well = omega arith
never_well StrangeMark well = omega arith
never_well Busy well = omega arith
never_well (BadEvent line) well = omega arith
never_well SeatsTaken well = omega arith
never_well TooLarge well = omega arith
never_well (AuditNo index) well = omega arith
never_well NoGuard well = omega arith
