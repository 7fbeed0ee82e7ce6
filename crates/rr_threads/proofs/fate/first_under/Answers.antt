use Rattle.std.proofs.Common.{◌≡◌, ◌∙◌, ◌+◌, ℕ, true, false, List, ◌∷◌, Some, length, drop, refl, sym, ap, arith}
use Rattle.std.specs.Prelude.{slice_get}
use Rattle.std.proofs.lemmas.List.{at_drop_more}
use Rattle.std.proofs.lemmas.Option.{slice_get_within, get_or_from_slice_get}
use Rattle.rr_types.specs.declared.command.Command.{Command}
use Rattle.rr_types.specs.declared.command.RequestNo.{RequestNo}
use Rattle.rr_types.specs.Registry.{is_same_request}
use Rattle.rr_model.specs.NodeState.{decided_prefix}
use Rattle.rr_threads.specs.Fates.{first_under}
use Rattle.rr_threads.proofs.fate.first_under.Goals as goal

-- the search at a place goes on with the command there
looks_at : (q : RequestNo) (list : List Command) (n : ℕ) (c : Command) → slice_get list n ≡ Some c → first_under q (drop n list) ≡ first_under q (c ∷ drop (n + 1) list)
looks_at q list n c found = at_drop_more (first_under q) list n c (slice_get_within list n c found) ∙ ap (λ (d : Command). first_under q (d ∷ drop (n + 1) list)) (get_or_from_slice_get list n c c found)

hit : (q : RequestNo) (c : Command) (rest : List Command) → is_same_request c.request q ≡ true → first_under q (c ∷ rest) ≡ Some c
hit q c rest same = rw same refl

miss : (q : RequestNo) (c : Command) (rest : List Command) → is_same_request c.request q ≡ false → first_under q (c ∷ rest) ≡ first_under q rest
miss q c rest other = rw other refl

pub returns-then-is_same : goal.returns-then-is_same
returns-then-is_same c =
    let list = decided_prefix c.args.core.now in
    let found : slice_get list c.loop-place.place ≡ Some c.in-Some.command = cc in
    let same : is_same_request c.in-Some.command.request c.args.request ≡ true = cc in
    sym (sym c.loop-place.invariant.1 ∙ looks_at c.args.request list c.loop-place.place c.in-Some.command found ∙ hit c.args.request c.in-Some.command (drop (c.loop-place.place + 1) list) same)

pub loop-place-preserved : goal.loop-place-preserved
loop-place-preserved c =
    let list = decided_prefix c.args.core.now in
    let found : slice_get list c.loop-place.place ≡ Some c.in-Some.command = cc in
    let other : is_same_request c.in-Some.command.request c.args.request ≡ false = cc in
    let within = slice_get_within list c.loop-place.place c.in-Some.command found in (
      omega arith,
      sym (miss c.args.request c.in-Some.command (drop (c.loop-place.place + 1) list) other) ∙ sym (looks_at c.args.request list c.loop-place.place c.in-Some.command found) ∙ c.loop-place.invariant.1,
    )
