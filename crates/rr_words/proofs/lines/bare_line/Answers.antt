use Rattle.clap.specs.Words.{new_app}
use Rattle.rr_words.specs.Lines.{IsLine}
use Rattle.rr_words.proofs.PartLemmas.{about, ended}
use Rattle.rr_words.proofs.lines.bare_line.Goals as goal

pub returns : goal.returns
returns c =
    let made : IsLine (new_app c.args.name.now) c.new.result = record { reads = c.new.ensures.app; local = c.new.ensures.local } in
    ended (about made c.about.ensures) c.after_long_help.ensures
