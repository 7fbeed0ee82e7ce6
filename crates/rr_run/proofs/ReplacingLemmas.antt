-- Texts that grow piece by piece.
use Rattle.std.proofs.Common.{◌≡◌, ◌∙◌, ◌-◌, ℕ, List, [], ◌++◌, Option, codes, decimal, Result, Ok, Err, IfOk, ap, subst, append_assoc}
use Rattle.rr_run.specs.Replacings.{aside_text, planned_text, replaced_text}

-- a piece, and all that came behind it
behind : (old piece rest mid new : List ℕ) → mid ≡ old ++ piece → new ≡ mid ++ rest → new ≡ old ++ (piece ++ rest)
behind old piece rest mid new first second = second ∙ ap (λ (l : List ℕ). l ++ rest) first ∙ append_assoc old piece rest

-- six pieces behind nothing
pub in_six : (v0 v1 v2 v3 v4 v5 v6 a1 a2 a3 a4 a5 a6 : List ℕ) → v0 ≡ [] → v1 ≡ v0 ++ a1 → v2 ≡ v1 ++ a2 → v3 ≡ v2 ++ a3 → v4 ≡ v3 ++ a4 → v5 ≡ v4 ++ a5
    → v6 ≡ v5 ++ a6 → v6 ≡ a1 ++ (a2 ++ (a3 ++ (a4 ++ (a5 ++ a6))))
in_six v0 v1 v2 v3 v4 v5 v6 a1 a2 a3 a4 a5 a6 e0 e1 e2 e3 e4 e5 e6 =
    behind v0 a1 (a2 ++ (a3 ++ (a4 ++ (a5 ++ a6)))) v1 v6 e1
    (behind v1 a2 (a3 ++ (a4 ++ (a5 ++ a6))) v2 v6 e2 (behind v2 a3 (a4 ++ (a5 ++ a6)) v3 v6 e3 (behind v3 a4 (a5 ++ a6) v4 v6 e4 (behind v4 a5 a6 v5 v6 e5 e6))))
    ∙ ap (λ (l : List ℕ). l ++ (a1 ++ (a2 ++ (a3 ++ (a4 ++ (a5 ++ a6)))))) e0

-- eight of them
pub in_eight : (v0 v1 v2 v3 v4 v5 v6 v7 v8 a1 a2 a3 a4 a5 a6 a7 a8 : List ℕ) → v0 ≡ [] → v1 ≡ v0 ++ a1 → v2 ≡ v1 ++ a2 → v3 ≡ v2 ++ a3 → v4 ≡ v3 ++ a4
    → v5 ≡ v4 ++ a5 → v6 ≡ v5 ++ a6 → v7 ≡ v6 ++ a7 → v8 ≡ v7 ++ a8 → v8 ≡ a1 ++ (a2 ++ (a3 ++ (a4 ++ (a5 ++ (a6 ++ (a7 ++ a8))))))
in_eight v0 v1 v2 v3 v4 v5 v6 v7 v8 a1 a2 a3 a4 a5 a6 a7 a8 e0 e1 e2 e3 e4 e5 e6 e7 e8 =
    in_six v0 v1 v2 v3 v4 v5 v8 a1 a2 a3 a4 a5 (a6 ++ (a7 ++ a8)) e0 e1 e2 e3 e4 e5 (behind v5 a6 (a7 ++ a8) v6 v8 e6 (behind v6 a7 a8 v7 v8 e7 e8))

-- the text on a node that would be replaced, of equal numbers
pub planned_again : (dir : List ℕ) (p q decided known more least : ℕ) (aside other : Option ℕ) → p ≡ q → decided ≡ known → more ≡ least - known → aside ≡ other
    → codes "node " ++ (decimal p ++ (codes " would be replaced: " ++ (decimal decided ++ (codes " decided commands, " ++ (decimal more
    ++ (codes " more to decide\n" ++ aside_text (codes "would move aside: ") dir q aside)))))) ≡ planned_text dir q known least other
planned_again dir p q decided known more least aside other same_node same_count same_more same_aside =
    ap (λ (n : ℕ). text n decided more aside) same_node ∙ ap (λ (n : ℕ). text q n more aside) same_count ∙ ap (λ (n : ℕ). text q known n aside) same_more
    ∙ ap (λ (a : Option ℕ). text q known (least - known) a) same_aside
  where
    text : ℕ → ℕ → ℕ → Option ℕ → List ℕ
    text n d m a = codes "node " ++ (decimal n ++ (codes " would be replaced: " ++ (decimal d ++ (codes " decided commands, " ++ (decimal m
        ++ (codes " more to decide\n" ++ aside_text (codes "would move aside: ") dir q a))))))

-- the text on a node that was replaced, of equal numbers
pub replaced_again : (dir : List ℕ) (p q count same : ℕ) (aside other : Option ℕ) → p ≡ q → count ≡ same → aside ≡ other
    → codes "node " ++ (decimal p ++ (codes " replaced: " ++ (decimal count ++ (codes " decided commands\n" ++ aside_text (codes "moved aside: ") dir q aside)))) ≡ replaced_text dir q same other
replaced_again dir p q count same aside other same_node same_count same_aside =
    ap (λ (n : ℕ). text n count aside) same_node ∙ ap (λ (n : ℕ). text q n aside) same_count ∙ ap (λ (a : Option ℕ). text q same a) same_aside
  where
    text : ℕ → ℕ → Option ℕ → List ℕ
    text n d a = codes "node " ++ (decimal n ++ (codes " replaced: " ++ (decimal d ++ (codes " decided commands\n" ++ aside_text (codes "moved aside: ") dir q a))))

-- what holds of a text holds of what was made of it
pub told_of : {V E F : Type 0} (text : Result V E) (result : Result V F) (P : V → Type 0) → IfOk result (λ v. text ≡ Ok v) → IfOk text P → IfOk result P
told_of text (Ok v) P is has = subst (λ t. IfOk t P) is has
told_of text (Err e) P is has = tt
