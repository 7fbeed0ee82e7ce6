use Rattle.rr_words.proofs.PartLemmas.{wanted}
use Rattle.rr_words.proofs.lines.option_arg.Goals as goal

pub returns : goal.returns
returns c = wanted c.named_arg.ensures c.required.ensures
