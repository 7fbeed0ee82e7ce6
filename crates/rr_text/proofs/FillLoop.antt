-- Reading pairs of hex digits, as a loop does.
use Rattle.std.proofs.Common.{◌≡◌, ℕ, List, [], ◌∷◌, ◌++◌, ◌<◌, ◌≤◌, ◌-◌, length, get_or, take, drop, Option, None, Some, refl, ap, ◌∙◌, sym, arith}
use Rattle.std.proofs.lemmas.List.{append_assoc, append-nil, take_all}
use Rattle.rr_text.specs.Reading.{◌>>=◌, hex_byte, pairs_at}

-- what was read before, and what is still read
abbrev pub with_front : List ℕ → Option (List ℕ) → Option (List ℕ)
with_front front read = read >>= λ bs. Some (front ++ bs)

regroup : (front : List ℕ) (b : ℕ) (read : Option (List ℕ)) → with_front front (read >>= λ bs. Some (b ∷ bs)) ≡ with_front (front ++ b ∷ []) read
regroup front b (Some bs) = ap (λ (x : List ℕ). Some x) (sym (append_assoc front (b ∷ []) bs))
regroup front b None = refl

pub pairs_on : (front : List ℕ) (h l b : ℕ) (w : List ℕ) (total : Option (List ℕ)) → Some b ≡ hex_byte h l → with_front front (pairs_at (h ∷ l ∷ w)) ≡ total → with_front (front ++ b ∷ []) (pairs_at w) ≡ total
pairs_on front h l b w total e so_far =
    let one : with_front front (pairs_at (h ∷ l ∷ w)) ≡ with_front (front ++ b ∷ []) (pairs_at w) = rw (← e) (regroup front b (pairs_at w)) in
    sym one ∙ so_far

-- the same of the list's own reads
pub pairs_next : (front rest : List ℕ) (b : ℕ) (total : Option (List ℕ)) → 2 ≤ length rest → Some b ≡ hex_byte (get_or rest 0 0) (get_or rest 1 0) → with_front front (pairs_at rest) ≡ total → with_front (front ++ b ∷ []) (pairs_at (take (length rest - 2) (drop 2 rest))) ≡ total
pairs_next front [] b total le e so_far = absurd (omega arith)
pairs_next front (h ∷ []) b total le e so_far = absurd (omega arith)
pairs_next front (h ∷ l ∷ w) b total le e so_far = rw (take_all (length (h ∷ l ∷ w) - 2) w (omega arith)) (pairs_on front h l b w total e so_far)

pub pairs_stop : (front : List ℕ) (h l : ℕ) (w : List ℕ) (total : Option (List ℕ)) → None ≡ hex_byte h l → with_front front (pairs_at (h ∷ l ∷ w)) ≡ total → total ≡ None
pairs_stop front h l w total e so_far =
    let one : with_front front (pairs_at (h ∷ l ∷ w)) ≡ None = rw (← e) refl in
    sym so_far ∙ one

pub pairs_done : (front rest : List ℕ) (total : Option (List ℕ)) → length rest ≡ 0 → with_front front (pairs_at rest) ≡ total → total ≡ Some front
pairs_done front [] total e so_far = sym so_far ∙ ap (λ (x : List ℕ). Some x) (append-nil front)
pairs_done front (b ∷ w) total e so_far = absurd (omega arith)

pub pairs_odd : (front rest : List ℕ) (total : Option (List ℕ)) → 0 < length rest → length rest < 2 → with_front front (pairs_at rest) ≡ total → total ≡ None
pairs_odd front [] total some few so_far = absurd (omega arith)
pairs_odd front (b ∷ []) total some few so_far = sym so_far
pairs_odd front (b ∷ c ∷ w) total some few so_far = absurd (omega arith)
