-- What a person is told behind an answer.
use Rattle.std.specs.Prelude.{◌≡◌, if◌then◌else◌, Bool, true, not, ◌&&◌, Option, None, Some}
use Rattle.rr_text.specs.declared.answer.Answer.TheVariants.{Unacknowledged}
use Rattle.rr_shell.specs.declared.outcome.Outcome.{Outcome}
use Rattle.rr_shell.specs.declared.outcome.Outcome.TheVariants.{Answered}
use Rattle.rr_shell.specs.Texts.{left_behind, is_nearly_full}
use Rattle.rr_shell.specs.declared.answering.Hint.{Hint}
use Rattle.rr_shell.specs.declared.answering.Hint.TheVariants.{Again, Left}
use Rattle.rr_run.specs.Boards.{Call, WasTold}
use Rattle.rr_run.specs.declared.asking.Question.{Question}
use Rattle.rr_run.specs.declared.asking.Told.{Told}
use Rattle.rr_run.specs.declared.asking.Told.TheVariants as told

-- what a person is told, by what is told of a submit: how few commands are left, where that is so and wasn't told before
abbrev pub hint_of_room : Told → Bool → Option Hint
hint_of_room (told.Outcome outcome s) warned =
    if not warned && is_nearly_full (left_behind s.decided) then Some (Left (left_behind s.decided)) else None
hint_of_room t warned = None

-- what a person is told behind what a submit has come to: that it can be asked again; else how few commands are left
abbrev pub hint_behind : Outcome → Told → Bool → Option Hint
hint_behind (Answered (Unacknowledged p q)) t warned = Some Again
hint_behind o t warned = hint_of_room t warned

-- whether a person was told how few commands are left, before or now
abbrev pub warned_behind : Bool → Option Hint → Bool
warned_behind warned (Some (Left n)) = true
warned_behind warned hint = warned

-- a person is told this, by what was told to the question
abbrev pub IsHinted : {B : Type 0} → (B → Call → B → Type 0) → Question → (Told → Option Hint) → Option Hint → Type 0
IsHinted gives question By hint = (t : Told) × WasTold gives question t × (hint ≡ By t)
