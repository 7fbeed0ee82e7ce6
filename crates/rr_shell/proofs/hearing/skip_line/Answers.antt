use Rattle.std.proofs.Common.{rules, ◌++◌, ◌∷◌, [], arith}
use Rattle.std.proofs.KnownBytes.{Consumes-trans}
use Rattle.rr_shell.proofs.HearingLemmas.{one_line}
use Rattle.rr_shell.proofs.hearing.skip_line.Goals as goal

pub bytes-preserved : goal.bytes-preserved
bytes-preserved g c =
    let (text, line, read) = c.bytes.invariant.read in
    let b = c.in-Some.byte in
    record {
      read = (text ++ b ∷ [], one_line text (b ∷ []) line (search rules), Consumes-trans _ _ _ _ _ read (rw c.in-Some.is at c.in_ok-byte.ensures.next));
      faults = omega (arith, c.bytes.invariant.faults, c.in_ok-byte.ensures.faults);
    }
