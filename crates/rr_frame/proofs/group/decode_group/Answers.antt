use Rattle.std.proofs.Common.{subst, ap, ◌∙◌, arith}
use Rattle.rr_frame.specs.Reading.{Decodes}
use Rattle.rr_frame.specs.GroupFormat.{group_in}
use Rattle.rr_frame.proofs.GroupLaws.{group_answer_found, group_spelt}
use Rattle.rr_frame.proofs.group.decode_group.Goals as goal

pub returns-clause-found : goal.returns-clause-found
returns-clause-found c = group_answer_found c.args.version c.args.bytes.now c.read_whole.result (λ i. omega (arith, c.type_inv.bytes i)) c.read_whole.ensures

pub returns-clause-only : goal.returns-clause-only
returns-clause-only c = λ g lawful e. subst (λ s. Decodes c.read_whole.result s) (ap (group_in c.args.version) e ∙ group_spelt c.args.version g lawful) c.read_whole.ensures
