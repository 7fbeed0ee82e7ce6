use Rattle.std.proofs.Common.{ℕ, Option, Some, ap, sym}
use Rattle.std.specs.Option.{option_map_or}
use Rattle.rr_types.specs.declared.input.Input.{Input}
use Rattle.rr_types.specs.declared.input.Input.TheVariants.{Hear}
use Rattle.rr_turn.proofs.recorded.numbered.Goals as goal

pub returns-in_default : goal.returns-in_default
returns-in_default c = sym (ap (λ (o : Option (Input ℕ)). option_map_or (λ i. i) o (Hear c.args.number)) (c.unheard.ensures (λ m. Some c.args.number)))
