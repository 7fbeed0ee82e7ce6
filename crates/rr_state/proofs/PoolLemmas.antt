-- A command among others, by its request number.
use Rattle.std.proofs.Common.{◌≡◌, Bool, true, false, List, [], ◌∷◌, refl}
use Rattle.std.specs.List.{list_any}
use Rattle.rr_types.specs.declared.command.RequestNo.{RequestNo}
use Rattle.rr_types.specs.declared.command.Command.{Command}
use Rattle.rr_types.specs.Registry.{is_same_request, has_request}

has_by : (c : Command) (cs : List Command) (q : RequestNo) → has_request cs q ≡ list_any (λ x. is_same_request x.request q) cs → (b : Bool) → is_same_request c.request q ≡ b → has_request (c ∷ cs) q ≡ list_any (λ x. is_same_request x.request q) (c ∷ cs)
has_by c cs q more true h = rw h
has_by c cs q more false h = rw h more

pub has_one : (cs : List Command) (q : RequestNo) → has_request cs q ≡ list_any (λ x. is_same_request x.request q) cs
has_one [] q = refl
has_one (c ∷ cs) q = has_by c cs q (has_one cs q) (is_same_request c.request q) refl
