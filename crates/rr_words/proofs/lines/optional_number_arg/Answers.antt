use Rattle.std.proofs.Common.{Some, ap, ◌∙◌}
use Rattle.rr_words.proofs.PartLemmas.{parsed}
use Rattle.rr_words.proofs.lines.optional_number_arg.Goals as goal

pub returns : goal.returns
returns c = parsed c.named_arg.ensures c.value_parser.ensures.others (c.value_parser.ensures.given.1 ∙ ap (λ p. Some p) (c.value_parser.ensures.given.2 ∙ c.unsigned.ensures))
