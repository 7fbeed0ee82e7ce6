use Rattle.std.proofs.Common.{◌≡◌, ◌++◌, drop}
use Rattle.std.specs.List.{flat_map}
use Rattle.rr_text.specs.Words.{hex_pair}
use Rattle.rr_text.proofs.text_word.push_pairs.Given as goal

-- what is printed and what is left make the whole
abbrev pub invariant-loop-byte : goal.invariant-loop-byte
invariant-loop-byte l = l.out.items ++ flat_map hex_pair (drop l.byte-index l.bytes) ≡ l.fn.out.items ++ flat_map hex_pair l.bytes
