use Rattle.std.proofs.Common.{refl}
use Rattle.rr_explain.proofs.FaultLemmas.{plain_on}
use Rattle.rr_explain.proofs.fault.said.Goals as goal

pub returns : goal.returns
returns c = λ line within. record { same = refl; on = plain_on line c.args.column c.args.words.now c.requires.behind within c.requires.plain }
