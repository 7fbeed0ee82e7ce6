use Rattle.rr_words.proofs.PartLemmas.{acting}
use Rattle.rr_words.proofs.lines.flag_arg.Goals as goal

pub returns : goal.returns
returns c = acting c.named_arg.ensures c.action.ensures
