use Rattle.std.proofs.Common.{subst}
use Rattle.std.specs.Prelude.{true}
use Rattle.rr_folders.proofs.marked.MarkedDisk.put.Goals as goal

pub returns-in-Ok-clause-put : goal.returns-in-Ok-clause-put
returns-in-Ok-clause-put g c = (c.args.course, subst (λ s. g.K.MarkKeeper.puts s.keeper c.args.course true c.put.new.self) c.self.view_is c.in-Ok.ensures)
