-- How many device calls are left of a switch.
use Rattle.std.proofs.Common.{◌≡◌, ◌∙◌, ◌≤◌, ◌<◌, ℕ, suc, Option, Some, None, refl, arith}
use Rattle.rr_journal.specs.declared.stage.Stage.{Stage}
use Rattle.rr_journal.specs.declared.stage.Stage.TheVariants.{Closing, SettlingClosed, WritingBody, SettlingBody, OpeningGate, SettlingGate}
use Rattle.rr_journal.specs.Stages.{stage_behind}

-- the device calls from a stage on
abbrev pub left_from : Stage → ℕ
left_from Closing = 6
left_from SettlingClosed = 5
left_from WritingBody = 4
left_from SettlingBody = 3
left_from OpeningGate = 2
left_from SettlingGate = 1

-- behind a device call there is one less
by_next : (s t : Stage) (o : Option Stage) → stage_behind s ≡ o → o ≡ Some t → left_from s ≡ suc (left_from t)
by_next Closing t o e is = let same : Some SettlingClosed ≡ Some t = e ∙ is in let then : t ≡ SettlingClosed = cc in rw then refl
by_next SettlingClosed t o e is = let same : Some WritingBody ≡ Some t = e ∙ is in let then : t ≡ WritingBody = cc in rw then refl
by_next WritingBody t o e is = let same : Some SettlingBody ≡ Some t = e ∙ is in let then : t ≡ SettlingBody = cc in rw then refl
by_next SettlingBody t o e is = let same : Some OpeningGate ≡ Some t = e ∙ is in let then : t ≡ OpeningGate = cc in rw then refl
by_next OpeningGate t o e is = let same : Some SettlingGate ≡ Some t = e ∙ is in let then : t ≡ SettlingGate = cc in rw then refl
by_next SettlingGate t o e is = let none : None ≡ Some t = e ∙ is in absurd cc

pub next_is_nearer : (s t : Stage) → stage_behind s ≡ Some t → left_from s ≡ suc (left_from t)
next_is_nearer s t e = by_next s t (Some t) e refl

-- at most six are left, and at least one
pub some_left : (s : Stage) → 0 < left_from s
some_left Closing = omega arith
some_left SettlingClosed = omega arith
some_left WritingBody = omega arith
some_left SettlingBody = omega arith
some_left OpeningGate = omega arith
some_left SettlingGate = omega arith

pub few_left : (s : Stage) → left_from s ≤ 6
few_left Closing = omega arith
few_left SettlingClosed = omega arith
few_left WritingBody = omega arith
few_left SettlingBody = omega arith
few_left OpeningGate = omega arith
few_left SettlingGate = omega arith
