use Rattle.std.proofs.Common.{refl}
use Rattle.rr_cli.specs.Ends.{cut_so, uncut}
use Rattle.rr_cli.proofs.picture.picture_input.Goals as goal

pub returns-in-Some-clause-ends : goal.returns-in-Some-clause-ends
returns-in-Some-clause-ends g c = cut_so c.in-Some.cut c.in-Some.ensures.some c.print_input.ensures.ends

pub returns-in-None-clause-ends : goal.returns-in-None-clause-ends
returns-in-None-clause-ends g c = uncut (c.in-None.ensures.none refl) c.end_without_cut.ensures refl
