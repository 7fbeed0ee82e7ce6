use Rattle.std.proofs.KnownBytes.{Appends-trans}
use Rattle.rr_explain.specs.Faults.{shown}
use Rattle.rr_explain.proofs.PrintLemmas.{then_printed, word_joined}
use Rattle.rr_explain.proofs.fault.print_word.Goals as goal

pub returns : goal.returns
returns g c =
    then_printed c.writeln.result _ _ _ _ _ _ (word_joined c.args.called.now (shown c.args.word.now) c.args.expected.now)
    (Appends-trans _ _ _ _ _ c.in_ok-write.ensures.bytes c.in_ok-print_shown.ensures) c.writeln.ensures.bytes
