-- A decision that is staged and then owed to each other node.
use Rattle.std.proofs.Common.{◌≡◌, ℕ, Some, ◌∙◌, refl}
use Rattle.rr_types.specs.declared.command.Command.{Command}
use Rattle.rr_types.specs.declared.fact.Fact.TheVariants.{Decide}
use Rattle.rr_types.specs.declared.message.Body.TheVariants as say
use Rattle.rr_model.specs.NodeState.{others, next_number}
use Rattle.rr_model.specs.NodeParts.{owe, stage, conclude}
use Rattle.rr_core.specs.Steps.{Stepped, stepped}

pub conclude_from : (i : ℕ) (v : Command) (s t u : Stepped) (k : ℕ) → k ≡ next_number s.state → t ≡ stepped (stage (Decide i v)) s → u ≡ stepped (λ w. owe (say.Decision i v) (Some k) (others w) w) t → u ≡ stepped (conclude i v) s
unfolding conclude stage
conclude_from i v s t u k n e f = f ∙ rw (e, n) refl
