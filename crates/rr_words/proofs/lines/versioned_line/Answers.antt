use Rattle.rr_words.specs.Lines.{with_version}
use Rattle.rr_words.proofs.PartLemmas.{versioned}
use Rattle.rr_words.proofs.lines.versioned_line.Goals as goal

pub returns : goal.returns
unfolding with_version
returns c = versioned c.bare_line.ensures c.version.ensures
