use Rattle.std.proofs.Common.{decimal}
use Rattle.rr_explain.specs.Found.{kind_words}
use Rattle.rr_explain.proofs.PrintLemmas.{then_printed, place_joined}
use Rattle.rr_explain.proofs.fault.print_fault.Goals as goal

pub returns : goal.returns
returns g c =
    then_printed c.print_kind.result _ _ _ _ _ _ (place_joined c.args.name.now (decimal c.args.fault.line) (decimal c.args.fault.column) (kind_words c.args.fault.kind)) c.in_ok-write.ensures.bytes c.print_kind.ensures
