use Rattle.std.proofs.Common.{sym, refl, arith}
use Rattle.rr_text.proofs.NumberLemmas.{digits_stop, digits_end}
use Rattle.rr_text.proofs.text_read.digits_value.Goals as goal

pub returns-in-None : goal.returns-in-None
returns-in-None c =
    sym (digits_stop c.args.word.now c.loop-digit.digit-index c.loop-digit.value (omega arith) c.loop-digit.invariant.1.0 c.in-None.ensures)

pub returns : goal.returns
returns c =
    sym (digits_end c.args.word.now c.loop-digit.digit-index c.loop-digit.value (omega arith) c.loop-digit.invariant.0 c.loop-digit.invariant.1.0 c.loop-digit.invariant.1.1)
