use Rattle.std.proofs.Common.{ℕ, Bor, List, ap, subst, sym}
use Rattle.std.specs.Option.{option_map}
use Rattle.rr_run.specs.Replacings.{IsTold, told}
use Rattle.rr_run.proofs.replacing.replace_by_words.Goals as goal

pub returns-in-Ok-clause-ends : goal.returns-in-Ok-clause-ends
returns-in-Ok-clause-ends g c =
    let dir = c.in-Some.dir.now in
    let node = c.in-Some-node_of.node in
    told dir node c.as_slice.result.now (ap (option_map (λ (s : Bor (List ℕ)). s.now)) c.in-Some.is) c.in-Some-node_of.ensures
    (subst (λ (text : List ℕ). IsTold dir node c.args.words.now.dry text) (sym c.as_slice.ensures.value) c.in-Ok.ensures.told) c.end_by_text.ensures.ends
