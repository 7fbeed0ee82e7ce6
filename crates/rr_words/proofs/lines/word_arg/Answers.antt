use Rattle.clap.specs.Words.{new_rule}
use Rattle.rr_words.specs.Lines.{IsArg}
use Rattle.rr_words.proofs.PartLemmas.{helped, wanted}
use Rattle.rr_words.proofs.lines.word_arg.Goals as goal

pub returns : goal.returns
returns c =
    let made : IsArg (new_rule c.args.id.now) c.new.result = record { reads = c.new.ensures.rule; local = c.new.ensures.optional.1 } in
    wanted (helped made c.help.ensures) c.required.ensures
