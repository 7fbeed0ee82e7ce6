use Rattle.std.proofs.Common.{refl}
use Rattle.rr_run.specs.Runs.{refused}
use Rattle.rr_run.proofs.script_run.run_found.Goals as goal

pub returns-in-Err-clause-ends : goal.returns-in-Err-clause-ends
returns-in-Err-clause-ends g c = refused c.end_by_closed.ensures.0 c.end_by_closed.ensures.1 refl
