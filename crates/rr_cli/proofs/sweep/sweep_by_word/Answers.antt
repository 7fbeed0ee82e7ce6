use Rattle.std.proofs.Common.{refl}
use Rattle.rr_cli.specs.Ends.{seeded, unseeded}
use Rattle.rr_cli.proofs.sweep.sweep_by_word.Goals as goal

pub returns-in-Some-clause-ends : goal.returns-in-Some-clause-ends
returns-in-Some-clause-ends g c = seeded c.in-Some.seed c.in-Some.ensures.some c.sweep_input.ensures.ends

pub returns-in-None-clause-ends : goal.returns-in-None-clause-ends
returns-in-None-clause-ends g c = unseeded (c.in-None.ensures.none refl) c.end_without_seed.ensures refl
