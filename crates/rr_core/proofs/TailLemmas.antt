-- What came last goes again.
use Rattle.std.proofs.Common.{◌≡◌, ◌<◌, ◌-◌, arith, List, [], ◌∷◌, ◌++◌, length, take, drop, ap, sym, ◌∙◌, append_assoc}
use Rattle.std.proofs.lemmas.List.{take_all, length-drop}

tail_is : {X : Type 0} (xs : List X) → take (length xs - 1) (drop 1 xs) ≡ drop 1 xs
tail_is xs = take_all (length xs - 1) (drop 1 xs) (let e : length (drop 1 xs) ≡ length xs - 1 = length-drop 1 xs in omega arith)

-- the first of them goes after the others
pub unlast : {X : Type 0} (before xs mid after : List X) → 0 < length xs → ((ds : List X) → before ≡ ds ++ take (length xs - 1) (drop 1 xs) → mid ≡ ds) → ((ds : List X) (d : X) → mid ≡ ds ++ d ∷ [] → after ≡ ds) → (cs : List X) → before ≡ cs ++ xs → after ≡ cs
unlast before [] mid after l h k cs e = absurd (omega arith)
unlast before (x ∷ xs) mid after l h k cs e = k cs x (h (cs ++ x ∷ []) (e ∙ sym (append_assoc cs (x ∷ []) xs) ∙ ap (λ (t : List _). (cs ++ x ∷ []) ++ t) (sym (tail_is (x ∷ xs)))))
