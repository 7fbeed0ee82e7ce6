-- The phases of the code, and what a step of an opening answers.
use Rattle.std.specs.Prelude.{◌≡◌, ◌⊎◌, Result, Ok, Err}
use Rattle.rr_types.specs.declared.refusal.Refusal.{Refusal}
use Rattle.rr_types.specs.declared.refusal.Refusal.TheVariants.{OutOfMemory}
use Rattle.rr_journal.specs.declared.opening.Phase as code
use Rattle.rr_journal.specs.declared.opening.Phase.TheVariants as at
use Rattle.rr_journal.specs.declared.opening.Next as next
use Rattle.rr_journal.specs.declared.opening.Next.TheVariants as next_is
use Rattle.rr_journal.specs.Openings.{Phase, Settling, ReadingFirst, ReadingSecond, Rewriting, After, Goes, Opens, Stops}
use Rattle.rr_journal.specs.Rewrites.{area_anew}
use Rattle.rr_journal.specs.Stages.{calls_from}

-- a phase of the code, as contracts see it
abbrev pub phase_of : code.Phase → Phase
phase_of at.Settling = Settling
phase_of at.ReadingFirst = ReadingFirst
phase_of (at.ReadingSecond first) = ReadingSecond first.items
phase_of (at.Rewriting rewrite) = Rewriting rewrite.found (calls_from (area_anew rewrite.found) rewrite.body rewrite.stage)

-- what is found by the reads takes memory; nothing else behind a device call does
abbrev pub TakesMemory : Phase → Type 0
TakesMemory Settling = ⊥
TakesMemory ReadingFirst = ⊥
TakesMemory (ReadingSecond first) = Unit {0}
TakesMemory (Rewriting found calls) = ⊥

-- the code goes on as it must behind a device call, unless memory is wanting
abbrev pub Follows : Result next.Next Refusal → Phase → After → Type 0
Follows (Ok (next_is.Phase phase)) old after = after ≡ Goes (phase_of phase)
Follows (Ok (next_is.Open area epoch gate promise number)) old after =
    after ≡ Opens area (record { epoch = epoch; promise = promise; next = number; gate = gate })
Follows (Err e) old after = ((e ≡ OutOfMemory) × TakesMemory old) ⊎ (after ≡ Stops e)
