use Rattle.std.proofs.Common.{sym, subst}
use Rattle.rr_node.specs.declared.doing.Doing.{Doing}
use Rattle.rr_node.specs.Views.{CarriesFailing}
use Rattle.rr_node.proofs.OpeningLaws.{opens_failing}
use Rattle.rr_node.proofs.doing.fail_call.Goals as goal

pub returns-in-Opening : goal.returns-in-Opening
returns-in-Opening c = rw c.in-Opening.is (opens_failing c.args.nodes c.args.node c.args.fill.items c.in-Opening.opening c.fail.result c.fail.ensures)

pub returns-in-Serving : goal.returns-in-Serving
returns-in-Serving c = subst (λ (d : Doing). CarriesFailing c.args.nodes c.args.node c.args.fill.items d c.fail-in-Serving.result.1 c.fail-in-Serving.result.0) (sym c.in-Serving.is) (c.fail-in-Serving.ensures c.args.nodes c.args.node)
