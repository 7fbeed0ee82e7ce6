use Rattle.std.proofs.Common.{ap, sym, ◌∙◌}
use Rattle.std.proofs.lemmas.Map.Text.{is_eq-slice_cmp}
use Rattle.rr_registry.specs.Tables.{may_free}
use Rattle.rr_registry.proofs.names.Names.make_place.Goals as goal

pub returns-in-Claim-clause-only : goal.returns-in-Claim-clause-only
returns-in-Claim-clause-only c = λ n other. c.make_place.ensures.only n (is_eq-slice_cmp _ n ∙ sym (ap (λ op. may_free op n) c.in-Claim.is) ∙ other)
