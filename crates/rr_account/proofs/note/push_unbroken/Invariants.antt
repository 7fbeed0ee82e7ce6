use Rattle.std.proofs.Common.{◌≡◌, ◌++◌, drop, map}
use Rattle.rr_account.specs.Texts.{unbroken}
use Rattle.rr_account.proofs.note.push_unbroken.Given as goal

-- what is appended and what is left make the whole
abbrev pub invariant-loop-byte : goal.invariant-loop-byte
invariant-loop-byte l = l.text.items ++ map unbroken (drop l.byte-index l.bytes) ≡ l.fn.text.items ++ map unbroken l.bytes
