use Rattle.rr_words.proofs.PartLemmas.{wanted}
use Rattle.rr_words.proofs.lines.number_arg.Goals as goal

pub returns : goal.returns
returns c = wanted c.optional_number_arg.ensures c.required.ensures
