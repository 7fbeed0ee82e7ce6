use Rattle.std.proofs.Common.{ap, ◌∙◌, arith}
use Rattle.rr_frame.specs.Refused.{answer_of}
use Rattle.rr_frame.specs.FactFormat.{fact_in}
use Rattle.rr_frame.proofs.FactLaws.{fact_answer_found, fact_spelt}
use Rattle.rr_frame.proofs.fact.decode_fact.Goals as goal

pub returns-clause-found : goal.returns-clause-found
returns-clause-found c = fact_answer_found c.args.version c.args.bytes.now c.read_whole.result (λ i. omega (arith, c.type_inv.bytes i)) c.read_whole.ensures

pub returns-clause-only : goal.returns-clause-only
returns-clause-only c = λ f lawful e. c.read_whole.ensures ∙ ap (λ b. answer_of (fact_in c.args.version b)) e ∙ ap answer_of (fact_spelt c.args.version f lawful)
