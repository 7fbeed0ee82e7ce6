use Rattle.std.proofs.Common.{arith, length-take}
use Rattle.rr_explain.proofs.PrintLemmas.{then_printed, printed_so, shown_long, shown_short}
use Rattle.rr_explain.proofs.fault.print_shown.Goals as goal

pub slice_bounds-front-end : goal.slice_bounds-front-end
slice_bounds-front-end g c = omega (arith, length-take 80 c.args.word.now)

pub returns-in_ok-print_bytes : goal.returns-in_ok-print_bytes
returns-in_ok-print_bytes g c = then_printed c.write_all.result _ _ _ _ _ _ (shown_long c.args.word.now (omega arith)) c.in_ok-print_bytes.ensures c.write_all.ensures.bytes

pub returns-else-word-gt-SHOWN : goal.returns-else-word-gt-SHOWN
returns-else-word-gt-SHOWN g c = printed_so c.print_bytes-else-word-gt-SHOWN.result _ _ _ _ (shown_short c.args.word.now (omega arith)) c.print_bytes-else-word-gt-SHOWN.ensures
