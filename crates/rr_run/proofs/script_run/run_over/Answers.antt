use Rattle.std.proofs.Common.{ℕ, List, option_map, Bor, ap}
use Rattle.rr_run.proofs.script_run.run_over.Goals as goal

pub returns-in-Some-clause-ends : goal.returns-in-Some-clause-ends
returns-in-Some-clause-ends g c = rw (ap (option_map (λ (s : Bor (List ℕ)). s.now)) c.in-Some.is) c.run_if_fresh.ensures.ends

pub returns-in-None-clause-ends : goal.returns-in-None-clause-ends
returns-in-None-clause-ends g c = rw (ap (option_map (λ (s : Bor (List ℕ)). s.now)) c.in-None.is) c.run_found.ensures.ends
