use Rattle.std.proofs.Common.{◌≡◌, ◌∙◌, ◌++◌, ℕ, List, [], ◌∷◌, codes, ap, append_assoc}
use Rattle.std.proofs.lemmas.Result.{on_ok_weaker}
use Rattle.rr_json.specs.Json.{opened, number_member}
use Rattle.rr_cli.proofs.area_objects.push_unformatted.Goals as goal

-- an object of one member, by what its parts were appended to
ended_so : (old kind member begun text ended : List ℕ) → begun ≡ old ++ kind → text ≡ begun ++ member → ended ≡ text ++ 125 ∷ 10 ∷ [] → ended ≡ old ++ ((kind ++ member) ++ 125 ∷ 10 ∷ [])
ended_so old kind member begun text ended has_kind has_member is =
    is ∙ ap (λ t. t ++ 125 ∷ 10 ∷ []) (has_member ∙ ap (λ t. t ++ member) has_kind ∙ append_assoc old kind member) ∙ append_assoc old (kind ++ member) (125 ∷ 10 ∷ [])

pub returns : goal.returns
returns c =
    record {
      ok = on_ok_weaker c.push_end.result (ended_so c.args.out.now.items (opened (codes "unformatted")) (number_member (codes "area") c.args.area) _ _ _ c.in_ok-push_open.ensures.ok c.in_ok-push_number_member.ensures.ok) c.push_end.ensures.ok;
    }
