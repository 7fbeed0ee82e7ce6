-- What a node's client finds that a submit has come to.
use Rattle.std.specs.Prelude.{◌≡◌, length}
use Rattle.rr_types.specs.Limits.{instance_count}
use Rattle.rr_types.specs.declared.command.RequestNo.{RequestNo}
use Rattle.rr_text.specs.declared.answer.Answer.{Answer}
use Rattle.rr_threads.specs.declared.fate.Fate.{Fate}
use Rattle.rr_threads.specs.declared.fate.Fate.TheVariants as fate
use Rattle.rr_threads.specs.Asking.{Asking, IsAnswered}
use Rattle.rr_shell.specs.declared.outcome.Outcome.{Outcome}
use Rattle.rr_shell.specs.declared.outcome.Outcome.TheVariants.{Answered, ListFull, Used, Nothing, Whole}

-- what a submit of a request has come to, as a client has it: an answer is one to this request, by the list that the client knows
abbrev pub IsOutcome : RequestNo → Asking → Outcome → Type 0
IsOutcome q a (Answered answer) = IsAnswered q a answer
IsOutcome q a ListFull = Unit {0}
IsOutcome q a (Used other) = Unit {0}
IsOutcome q a Nothing = ⊥
IsOutcome q a Whole = ⊥

-- the same of a sync: where the list is full that isn't what it has come to, but that the client knows a full list
abbrev pub IsSynced : RequestNo → Asking → Outcome → Type 0
IsSynced q a (Answered answer) = IsAnswered q a answer
IsSynced q a ListFull = ⊥
IsSynced q a (Used other) = Unit {0}
IsSynced q a Nothing = ⊥
IsSynced q a Whole = length a.known ≡ instance_count

-- what a submit has come to that isn't acknowledged, by what a list says of its command: the answer, unless it is full, or has another
-- command under the request number
abbrev pub outcome_by : Fate → Answer → Outcome
outcome_by fate.Never answer = ListFull
outcome_by (fate.Used other) answer = Used other
outcome_by fate.Open answer = Answered answer
outcome_by fate.Decided answer = Answered answer
