use Rattle.std.proofs.Common.{refl, sym}
use Rattle.rr_run.specs.Runs.{numbered, unleft}
use Rattle.rr_run.proofs.script_run.run_by_words.Goals as goal

pub returns-clause-ends : goal.returns-clause-ends
returns-clause-ends g c = numbered c.in-Some.nodes c.in-Some-left_out_by.without c.in-Some.ensures.some (sym c.in-Some-left_out_by.ensures) c.run_named.ensures.ends

pub returns-in_default-left_out_by-clause-ends : goal.returns-in_default-left_out_by-clause-ends
returns-in_default-left_out_by-clause-ends g c = unleft c.in-Some.nodes c.in-Some.ensures.some (sym c.in_default-left_out_by.ensures) c.end_without_list.ensures refl refl
