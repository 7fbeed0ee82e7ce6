use Rattle.std.proofs.Common.{[], ◌∷◌, ◌++◌, sym, ap, ◌∙◌}
use Rattle.rr_explain.specs.Found.{kind_words}
use Rattle.rr_explain.proofs.PrintLemmas.{printed_so, missing_joined}
use Rattle.rr_explain.proofs.fault.print_kind.Goals as goal

pub returns-in-Missing : goal.returns-in-Missing
returns-in-Missing g c =
    printed_so c.writeln.result _ _ _ _ (missing_joined c.in-Missing.called.now c.in-Missing.expected.now ∙ ap (λ k. kind_words k ++ 10 ∷ []) (sym c.in-Missing.is)) c.writeln.ensures.bytes
