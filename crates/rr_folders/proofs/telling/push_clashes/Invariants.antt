use Rattle.std.proofs.Common.{◌≡◌, ◌++◌, drop}
use Rattle.std.specs.List.{flat_map}
use Rattle.rr_folders.specs.Texts.{clash_line}
use Rattle.rr_folders.proofs.telling.push_clashes.Given as goal

-- what is printed and what is left make the whole
abbrev pub invariant-loop-clash : goal.invariant-loop-clash
invariant-loop-clash l = l.out.items ++ flat_map (λ c. clash_line l.form c) (drop l.clash-index l.clashes) ≡ l.fn.out.items ++ flat_map (λ c. clash_line l.form c) l.clashes
