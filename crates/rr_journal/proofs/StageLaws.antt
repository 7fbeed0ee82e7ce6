-- A stage's device call is the first of those that are left.
use Rattle.std.proofs.Common.{◌≡◌, ℕ, ◌≤◌, List, length, refl, arith}
use Rattle.rr_disk.specs.declared.area.Area.{Area}
use Rattle.rr_journal.specs.Image.{Found}
use Rattle.rr_journal.specs.declared.stage.Stage.{Stage}
use Rattle.rr_journal.specs.declared.stage.Stage.TheVariants.{Closing, SettlingClosed, WritingBody, SettlingBody, OpeningGate, SettlingGate}
use Rattle.rr_journal.specs.Openings.{Rewriting, due_call}
use Rattle.rr_journal.specs.Stages.{call_at, calls_from}

pub due_at : (found : Found) (area : Area) (body : List ℕ) (stage : Stage) → due_call (Rewriting found (calls_from area body stage)) ≡ call_at area body stage
due_at found area body Closing = refl
due_at found area body SettlingClosed = refl
due_at found area body WritingBody = refl
due_at found area body SettlingBody = refl
due_at found area body OpeningGate = refl
due_at found area body SettlingGate = refl

pub some_left : (area : Area) (body : List ℕ) (stage : Stage) → 1 ≤ length (calls_from area body stage)
some_left area body Closing = omega arith
some_left area body SettlingClosed = omega arith
some_left area body WritingBody = omega arith
some_left area body SettlingBody = omega arith
some_left area body OpeningGate = omega arith
some_left area body SettlingGate = omega arith
