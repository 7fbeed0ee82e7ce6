use Rattle.rr_words.specs.Lines.{rr_settings}
use Rattle.rr_words.proofs.PartLemmas.{commanding, helping}
use Rattle.rr_words.proofs.lines.top_line.Goals as goal

pub returns : goal.returns
unfolding rr_settings
returns c = commanding (helping c.versioned_line.ensures c.arg_required_else_help.ensures) c.subcommand_required.ensures
