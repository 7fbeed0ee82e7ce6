use Rattle.std.proofs.Common.{sym, ◌∙◌, arith}
use Rattle.rr_explain.proofs.PrintLemmas.{printed_so, hex_shown}
use Rattle.rr_explain.proofs.fault.print_byte.Goals as goal

pub returns-else-is_printable : goal.returns-else-is_printable
returns-else-is_printable g c =
    printed_so c.write.result _ _ _ _ (hex_shown c.args.byte (omega arith) (sym c.is_printable.ensures ∙ c.if-is_printable.false)) (rw (c.laid_out.ensures, c.in_radix.ensures) at c.write.ensures.bytes)
