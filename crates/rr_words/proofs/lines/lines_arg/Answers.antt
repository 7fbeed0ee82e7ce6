use Rattle.rr_words.proofs.PartLemmas.{acting, lettered}
use Rattle.rr_words.proofs.lines.lines_arg.Goals as goal

pub returns : goal.returns
returns c = acting (lettered c.named_arg.ensures c.short.ensures) c.action.ensures
