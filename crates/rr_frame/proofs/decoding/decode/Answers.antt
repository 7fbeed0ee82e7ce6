use Rattle.std.proofs.Common.{ap, ◌∙◌, arith}
use Rattle.rr_frame.specs.Refused.{answer_of}
use Rattle.rr_frame.specs.MessageFormat.{message_in}
use Rattle.rr_frame.proofs.MessageLaws.{message_answer_found, message_spelt}
use Rattle.rr_frame.proofs.decoding.decode.Goals as goal

pub returns-clause-found : goal.returns-clause-found
returns-clause-found c = message_answer_found c.args.nodes c.args.bytes.now c.read_whole.result (λ i. omega (arith, c.type_inv.bytes i)) c.read_whole.ensures

pub returns-clause-only : goal.returns-clause-only
returns-clause-only c = λ version m lawful e. c.read_whole.ensures ∙ ap (λ b. answer_of (message_in c.args.nodes b)) e ∙ ap answer_of (message_spelt version c.args.nodes m (omega (arith, c.count-count.ensures.value, c.count-count.ensures.range)) lawful)
