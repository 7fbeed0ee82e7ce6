use Rattle.std.proofs.Common.{◌≡◌, is_some, length}
use Rattle.std.specs.Prelude.{find}
use Rattle.rr_registry.specs.Kept.{kept_reply}
use Rattle.rr_core.proofs.leaving.find_answered.Given as goal

abbrev pub invariant-loop-request : goal.invariant-loop-request
invariant-loop-request l = find (λ q. is_some (kept_reply l.registry q)) l.left ≡ find (λ q. is_some (kept_reply l.registry q)) l.waiting

abbrev pub decreases-loop-request : goal.decreases-loop-request
decreases-loop-request l = length l.left
