use Rattle.std.proofs.Common.{◌∙◌, ap, sym, subst}
use Rattle.std.specs.Prelude.{ℕ, ◌≡◌, ◌<◌}
use Rattle.rr_types.specs.Nodes.{with_member}
use Rattle.rr_folders.specs.declared.judging.Past.{Past}
use Rattle.rr_folders.proofs.Guarding.{return_guards}
use Rattle.rr_folders.proofs.judging.return_fault.Goals as goal

pub returns-in-None-forgetful_fault-clause-guards : goal.returns-in-None-forgetful_fault-clause-guards
returns-in-None-forgetful_fault-clause-guards c = λ none.
    let known = subst (λ (k : ℕ). k < 7) c.index-index.ensures.value c.index-index.ensures.range in
    let member = subst (λ (s : ℕ). c.with.result ≡ with_member s c.args.owner.now.node) c.empty.ensures c.with.ensures in
    let make : ℕ → Past = λ s. record { formatted = s; replaced = c.args.owner.now.replaced } in
    return_guards c.args.owner.now (make c.with.result) c.args.found.now c.args.left c.args.reached known (ap make member)
    (sym c.fault_of.ensures ∙ c.in-None.is) (sym c.forgetful_fault.ensures ∙ c.in-None-forgetful_fault.is)
