use Rattle.std.proofs.Common.{ℕ, Ok, sym, subst}
use Rattle.rr_node.specs.declared.doing.Doing.TheVariants as does
use Rattle.rr_node.specs.declared.event.Outcome.TheVariants.{Opened}
use Rattle.rr_node.specs.Views.{Serves}
use Rattle.rr_node.proofs.ServingLaws.{serve_done}
use Rattle.rr_node.proofs.doing.serve.Goals as goal

pub returns-in-Ok : goal.returns-in-Ok
returns-in-Ok c n p =
    subst (λ (k : ℕ). Serves n p c.args.core c.args.slots (Ok (Opened k c.decided_count-decided.result c.in-Ok.names)) (does.Serving c.new.result)) (sym c.facts-number.ensures)
    (serve_done n p c.args.slots c.decided_count-decided.result c.args.core c.in-Ok.names c.new.result c.decided_count-decided.ensures c.in-Ok.ensures.ok c.new.ensures)
