use Rattle.std.proofs.Common.{◌≡◌, ◌++◌, drop}
use Rattle.std.specs.List.{flat_map}
use Rattle.rr_draw.specs.Pictures.{escaped}
use Rattle.rr_draw.proofs.escape.push_escaped.Given as goal

-- what is spelt and what is left make the whole
abbrev pub invariant-loop-byte : goal.invariant-loop-byte
invariant-loop-byte l = l.out.items ++ flat_map escaped (drop l.byte-index l.text) ≡ l.fn.out.items ++ flat_map escaped l.text
