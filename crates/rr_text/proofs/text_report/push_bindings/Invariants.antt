use Rattle.std.proofs.Common.{◌≡◌, ◌∷◌, ◌++◌, drop}
use Rattle.std.specs.List.{flat_map}
use Rattle.rr_text.specs.ReportTexts.{binding_text}
use Rattle.rr_text.proofs.text_report.push_bindings.Given as goal

-- what is printed and what is left make the whole
abbrev pub invariant-loop-binding : goal.invariant-loop-binding
invariant-loop-binding l = l.out.items ++ flat_map (λ b. 32 ∷ binding_text b) (drop l.binding-index l.bindings) ≡ l.fn.out.items ++ flat_map (λ b. 32 ∷ binding_text b) l.bindings
