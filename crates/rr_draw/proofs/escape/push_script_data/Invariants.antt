use Rattle.std.proofs.Common.{◌≡◌, ◌++◌, drop}
use Rattle.std.specs.List.{flat_map}
use Rattle.rr_draw.specs.Pictures.{in_script}
use Rattle.rr_draw.proofs.escape.push_script_data.Given as goal

-- what is spelt and what is left make the whole
abbrev pub invariant-loop-byte : goal.invariant-loop-byte
invariant-loop-byte l = l.out.items ++ flat_map in_script (drop l.byte-index l.json) ≡ l.fn.out.items ++ flat_map in_script l.json
