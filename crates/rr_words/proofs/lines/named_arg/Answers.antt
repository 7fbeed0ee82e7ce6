use Rattle.clap.specs.Words.{new_rule}
use Rattle.rr_words.specs.Lines.{IsArg}
use Rattle.rr_words.proofs.PartLemmas.{helped, named}
use Rattle.rr_words.proofs.lines.named_arg.Goals as goal

pub returns : goal.returns
returns c =
    let made : IsArg (new_rule c.args.id.now) c.new.result = record { reads = c.new.ensures.rule; local = c.new.ensures.optional.1 } in
    helped (named made c.long.ensures) c.help.ensures
