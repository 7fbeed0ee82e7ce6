use Rattle.std.proofs.Common.{◌≡◌, drop, IsTrue}
use Rattle.rr_model.specs.NodeDue.{first_due}
use Rattle.rr_core.proofs.DueLemmas.{IsSpent}
use Rattle.rr_core.proofs.due.first_due.Given as goal

-- nothing is due for the instances so far
abbrev pub invariant-loop-instance : goal.invariant-loop-instance
invariant-loop-instance l =
    record {
      left : first_due l.step.state (drop l.instance-index l.instances) ≡ first_due l.step.state l.instances;
      spent : IsTrue l.is_pool_spent → IsSpent l.step.state;
    }
