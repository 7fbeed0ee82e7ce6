use Rattle.std.proofs.Common.{List, ℕ, option_map, Bor, refl, ap}
use Rattle.rr_cli.specs.Ends.{named, not_locked}
use Rattle.rr_cli.proofs.exporting.export_by_word.Goals as goal

pub returns-in-Ok-clause-ends : goal.returns-in-Ok-clause-ends
returns-in-Ok-clause-ends g c =
    named c.in-Some.dir.now (ap (option_map (λ (s : Bor (List ℕ)). s.now)) c.in-Some.is) c.export_sifted.ensures.ends

pub returns-in-Err-clause-ends : goal.returns-in-Err-clause-ends
returns-in-Err-clause-ends g c =
    named c.in-Some.dir.now (ap (option_map (λ (s : Bor (List ℕ)). s.now)) c.in-Some.is) (not_locked c.end_by_unlocked.ensures refl)

pub returns-in-Some-end_without_such-clause-ends : goal.returns-in-Some-end_without_such-clause-ends
returns-in-Some-end_without_such-clause-ends g c =
    named c.in-Some.dir.now (ap (option_map (λ (s : Bor (List ℕ)). s.now)) c.in-Some.is) (not_locked c.in-Some-end_without_such.ensures.status refl)
