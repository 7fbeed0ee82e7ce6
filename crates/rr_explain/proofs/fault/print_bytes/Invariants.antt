-- The bytes so far are printed.
use Rattle.std.proofs.Common.{take}
use Rattle.std.specs.List.{flat_map}
use Rattle.std.specs.Io.KnownBytes.{Appends}
use Rattle.rr_explain.specs.Faults.{shown_byte}
use Rattle.rr_explain.proofs.fault.print_bytes.Given as goal

abbrev pub invariant-loop-byte : goal.invariant-loop-byte
invariant-loop-byte g l = Appends (g.W.Write.contents l.initial.err) (g.W.Write.contents l.err) (flat_map shown_byte (take l.byte-index l.bytes))
