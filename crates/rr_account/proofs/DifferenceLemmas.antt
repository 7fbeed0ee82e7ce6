-- The first line of a text that is cut at its first line feed.
use Rattle.std.proofs.Common.{◌≡◌, ℕ, suc, ◌+◌, List, [], ◌∷◌, ◌++◌, length, take, Option, None, Some, refl, ap, ◌∙◌, sym, arith}
use Rattle.rr_text.specs.Reading.{cut_at}
use Rattle.rr_text.proofs.CutLemmas.{cut_takes}
use Rattle.rr_account.specs.Differences.{line_by, first_line}

-- a line and its line feed are the front of a text
takes_feed : (line rest : List ℕ) → take (suc (length line)) (line ++ 10 ∷ rest) ≡ line ++ 10 ∷ []
takes_feed [] rest = refl
takes_feed (b ∷ bs) rest = ap (λ l. b ∷ l) (takes_feed bs rest)

pub first_cut : (text line rest : List ℕ) → cut_at 10 text ≡ Some (line, rest) → Some (take (length line + 1) text) ≡ first_line text
first_cut [] line rest e = search
first_cut (b ∷ bs) line rest e =
    let one : length line + 1 ≡ suc (length line) = omega arith in
    ap (λ n. Some (take n (b ∷ bs))) one ∙ ap (λ t. Some (take (suc (length line)) t)) (cut_takes 10 (b ∷ bs) line rest e)
    ∙ ap (λ l. Some l) (takes_feed line rest) ∙ sym (ap (λ p. Some (line_by (b ∷ bs) p)) e)
