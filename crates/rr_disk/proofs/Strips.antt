-- The cells that bytes stand for, and what a write makes of them.
use Rattle.std.proofs.Common.{◌≡◌, ◌⊎◌, inl, inr, ⊎_elim, ℕ, zero, suc, ◌+◌, ◌-◌, ◌<◌, ◌≤◌, Bool, true, false, List, [], ◌∷◌, ◌++◌, map, length, get_or, take, drop, All, refl, sym, ◌∙◌, ap, arith}
use Rattle.std.proofs.lemmas.List.{append_assoc, take-append-drop, drop-drop, length-take, length-take-le, length-drop, length-append}
use Rattle.std.proofs.lemmas.List.Elements.{All-nil, All-cons, All-head, All-tail}
use Rattle.rr_disk.specs.declared.cell.Cell.{Cell}
use Rattle.rr_disk.specs.Areas.{Extent, firm_cell, loose_cell}
use Rattle.rr_disk.specs.Strips.{cells_from}

pub same_extent : (cells cells' : List Cell) (safe safe' : ℕ) → cells ≡ cells' → safe ≡ safe' → (let e : Extent = record { cells = cells; safe = safe } in e) ≡ record { cells = cells'; safe = safe' }
same_extent cells cells' safe safe' p q = λ i. record { cells = p i; safe = q i }

pub le_or_le : (a b : ℕ) → (a ≤ b) ⊎ (b ≤ a)
le_or_le zero b = inl (omega arith)
le_or_le (suc a) zero = inr (omega arith)
le_or_le (suc a) (suc b) = ⊎_elim (λ le. inl (omega (arith, le))) (λ le. inr (omega (arith, le))) (le_or_le a b)

pub lt_or_le : (a b : ℕ) → (a < b) ⊎ (b ≤ a)
lt_or_le zero zero = inr (omega arith)
lt_or_le zero (suc b) = inl (omega arith)
lt_or_le (suc a) zero = inr (omega arith)
lt_or_le (suc a) (suc b) = ⊎_elim (λ lt. inl (omega (arith, lt))) (λ le. inr (omega (arith, le))) (lt_or_le a b)

pub length-cells : (f : ℕ → Bool) (k : ℕ) (bs : List ℕ) → length (cells_from f k bs) ≡ length bs
length-cells f k [] = refl
length-cells f k (b ∷ bs) = ap suc (length-cells f (k + 1) bs)

pub bytes-cells : (f : ℕ → Bool) (k : ℕ) (bs : List ℕ) → map (λ (cell : Cell). cell.byte) (cells_from f k bs) ≡ bs
bytes-cells f k [] = refl
bytes-cells f k (b ∷ bs) = ap (λ zs. b ∷ zs) (bytes-cells f (k + 1) bs)

-- which are loose matters at these places alone
pub cells_same : (f g : ℕ → Bool) (k : ℕ) (bs : List ℕ) → ((j : ℕ) → k ≤ j → j < k + length bs → f j ≡ g j) → cells_from f k bs ≡ cells_from g k bs
cells_same f g k [] same = refl
cells_same f g k (b ∷ bs) same =
    let here : f k ≡ g k = same k (omega arith) (omega arith) in
    let rest = cells_same f g (k + 1) bs (λ j from to. same j (omega arith) (omega arith)) in
    ap (λ (l : Bool). (let c : Cell = record { byte = b; loose = l } in c) ∷ cells_from f (k + 1) bs) here
    ∙ ap (λ (zs : List Cell). (let c : Cell = record { byte = b; loose = g k } in c) ∷ zs) rest

pub cells_firm : (f : ℕ → Bool) (k : ℕ) (bs : List ℕ) → ((j : ℕ) → f j ≡ false) → cells_from f k bs ≡ map firm_cell bs
cells_firm f k [] firm = refl
cells_firm f k (b ∷ bs) firm =
    ap (λ (l : Bool). (let c : Cell = record { byte = b; loose = l } in c) ∷ cells_from f (k + 1) bs) (firm k)
    ∙ ap (λ (zs : List Cell). firm_cell b ∷ zs) (cells_firm f (k + 1) bs firm)

pub cells_loose : (f : ℕ → Bool) (k : ℕ) (bs : List ℕ) → ((j : ℕ) → k ≤ j → j < k + length bs → f j ≡ true) → cells_from f k bs ≡ map loose_cell bs
cells_loose f k [] loose = refl
cells_loose f k (b ∷ bs) loose =
    ap (λ (l : Bool). (let c : Cell = record { byte = b; loose = l } in c) ∷ cells_from f (k + 1) bs) (loose k (omega arith) (omega arith))
    ∙ ap (λ (zs : List Cell). loose_cell b ∷ zs) (cells_loose f (k + 1) bs (λ j from to. loose j (omega arith) (omega arith)))

-- cells made loose
pub loosened-cells : (f : ℕ → Bool) (k : ℕ) (bs : List ℕ) → map (λ (cell : Cell). loose_cell cell.byte) (cells_from f k bs) ≡ map loose_cell bs
loosened-cells f k [] = refl
loosened-cells f k (b ∷ bs) = ap (λ (zs : List Cell). loose_cell b ∷ zs) (loosened-cells f (k + 1) bs)

pub take-cells : (f : ℕ → Bool) (k n : ℕ) (bs : List ℕ) → take n (cells_from f k bs) ≡ cells_from f k (take n bs)
take-cells f k zero bs = refl
take-cells f k (suc n) [] = refl
take-cells f k (suc n) (b ∷ bs) = ap (λ (zs : List Cell). (let c : Cell = record { byte = b; loose = f k } in c) ∷ zs) (take-cells f (k + 1) n bs)

drop-cells_at : (f : ℕ → Bool) (k n : ℕ) (bs : List ℕ) → drop n (cells_from f k bs) ≡ cells_from f (k + n) (drop n bs)
drop-cells_at f k zero bs = ap (λ m. cells_from f m bs) (omega arith)
drop-cells_at f k (suc n) [] = refl
drop-cells_at f k (suc n) (b ∷ bs) = drop-cells_at f (k + 1) n bs ∙ ap (λ m. cells_from f m (drop n bs)) (omega arith)

pub drop-cells : (f : ℕ → Bool) (n : ℕ) (bs : List ℕ) → drop n (cells_from f 0 bs) ≡ cells_from f n (drop n bs)
drop-cells f n bs = drop-cells_at f 0 n bs ∙ ap (λ m. cells_from f m (drop n bs)) (omega arith)

append-cells_at : (f : ℕ → Bool) (k : ℕ) (xs ys : List ℕ) → cells_from f k (xs ++ ys) ≡ cells_from f k xs ++ cells_from f (k + length xs) ys
append-cells_at f k [] ys = ap (λ m. cells_from f m ys) (omega arith)
append-cells_at f k (x ∷ xs) ys =
    ap (λ (zs : List Cell). (let c : Cell = record { byte = x; loose = f k } in c) ∷ zs)
    (append-cells_at f (k + 1) xs ys ∙ ap (λ m. cells_from f (k + 1) xs ++ cells_from f m ys) (omega arith))

pub append-cells : (f : ℕ → Bool) (xs ys : List ℕ) → cells_from f 0 (xs ++ ys) ≡ cells_from f 0 xs ++ cells_from f (length xs) ys
append-cells f xs ys = append-cells_at f 0 xs ys ∙ ap (λ m. cells_from f 0 xs ++ cells_from f m ys) (omega arith)

get_or-cells_at : (f : ℕ → Bool) (k : ℕ) (bs : List ℕ) (i : ℕ) (d : Cell) → i < length bs → get_or (cells_from f k bs) i d ≡ record { byte = get_or bs i 0; loose = f (k + i) }
get_or-cells_at f k [] i d lt = absurd (omega arith)
get_or-cells_at f k (b ∷ bs) zero d lt = ap (λ m. (let c : Cell = record { byte = b; loose = f m } in c)) (omega arith)
get_or-cells_at f k (b ∷ bs) (suc i) d lt = get_or-cells_at f (k + 1) bs i d (omega arith) ∙ ap (λ m. (let c : Cell = record { byte = get_or bs i 0; loose = f m } in c)) (omega arith)

pub get_or-cells : (f : ℕ → Bool) (bs : List ℕ) (i : ℕ) (d : Cell) → i < length bs → get_or (cells_from f 0 bs) i d ≡ record { byte = get_or bs i 0; loose = f i }
get_or-cells f bs i d lt = get_or-cells_at f 0 bs i d lt ∙ ap (λ m. (let c : Cell = record { byte = get_or bs i 0; loose = f m } in c)) (omega arith)

-- the bytes of cells are those
pub fits-cells : (f : ℕ → Bool) (k : ℕ) (bs : List ℕ) → All (λ b. b < 256) bs → All (λ (cell : Cell). cell.byte < 256) (cells_from f k bs)
fits-cells f k [] fit = All-nil (λ (cell : Cell). cell.byte < 256)
fits-cells f k (b ∷ bs) fit =
    All-cons (λ (cell : Cell). cell.byte < 256) (record { byte = b; loose = f k }) (cells_from f (k + 1) bs) (All-head (λ x. x < 256) b bs fit)
    (fits-cells f (k + 1) bs (All-tail (λ x. x < 256) b bs fit))

-- bytes that replace those of a range, and are loose
pub cells_over : (f g : ℕ → Bool) (at n : ℕ) (bs mid : List ℕ) → at ≤ length bs → length mid ≤ n → (n ≡ length mid) ⊎ (length bs ≤ at + n)
    → ((j : ℕ) → at ≤ j → j < at + length mid → g j ≡ true)
    → ((j : ℕ) → j < at → g j ≡ f j) → ((j : ℕ) → at + n ≤ j → j < length bs → g j ≡ f j)
    → cells_from g 0 (take at bs ++ mid ++ drop (at + n) bs) ≡ take at (cells_from f 0 bs) ++ map loose_cell mid ++ drop (at + n) (cells_from f 0 bs)
cells_over f g at n bs mid le fewer whole inside before after =
    let front = take at bs in
    let back = drop (at + n) bs in
    let long : length front ≡ at = length-take-le at bs le in
    let size : length (front ++ mid) ≡ at + length mid = length-append front mid ∙ ap (λ m. m + length mid) long in
    let rest : cells_from g (length (front ++ mid)) back ≡ drop (at + n) (cells_from f 0 bs) =
    cells_same g f (length (front ++ mid)) back (λ j from to. ⊎_elim
    (λ same. after j (omega (arith, size, same)) (omega (arith, size, same, length-drop (at + n) bs)))
    (λ past. absurd (omega (arith, past, length-drop (at + n) bs)))
    whole)
    ∙ behind whole
    ∙ sym (drop-cells f (at + n) bs) in
    append-cells g (front ++ mid) back
    ∙ ap (λ (zs : List Cell). zs ++ cells_from g (length (front ++ mid)) back) (append-cells g front mid)
    ∙ ap (λ (zs : List Cell). zs ++ cells_from g (length front) mid ++ cells_from g (length (front ++ mid)) back)
    (cells_same g f 0 front (λ j from to. before j (omega (arith, long))) ∙ sym (take-cells f 0 at bs))
    ∙ ap (λ (zs : List Cell). take at (cells_from f 0 bs) ++ zs ++ cells_from g (length (front ++ mid)) back)
    (cells_loose g (length front) mid (λ j from to. inside j (omega (arith, long)) (omega (arith, long))))
    ∙ ap (λ (zs : List Cell). take at (cells_from f 0 bs) ++ map loose_cell mid ++ zs) rest
  where
    behind : (n ≡ length mid) ⊎ (length bs ≤ at + n) → cells_from f (length (take at bs ++ mid)) (drop (at + n) bs) ≡ cells_from f (at + n) (drop (at + n) bs)
    behind (inl same) = ap (λ m. cells_from f m (drop (at + n) bs)) (length-append (take at bs) mid ∙ omega (arith, same, length-take-le at bs le))
    behind (inr past) = none (drop (at + n) bs) (omega (arith, length-drop (at + n) bs)) (length (take at bs ++ mid)) (at + n)
      where
        none : (zs : List ℕ) → length zs ≡ 0 → (k m : ℕ) → cells_from f k zs ≡ cells_from f m zs
        none [] h k m = refl
        none (z ∷ zs) h k m = absurd (omega (arith, h))

-- an area after a write that was done
pub cells_written : (f g : ℕ → Bool) (at : ℕ) (bs bytes : List ℕ) → at ≤ length bs
    → ((j : ℕ) → at ≤ j → j < at + length bytes → g j ≡ true) → ((j : ℕ) → (j < at) ⊎ (at + length bytes ≤ j) → g j ≡ f j)
    → cells_from g 0 (take at bs ++ bytes ++ drop (at + length bytes) bs) ≡ take at (cells_from f 0 bs) ++ map loose_cell bytes ++ drop (at + length bytes) (cells_from f 0 bs)
cells_written f g at bs bytes le inside outside =
    cells_over f g at (length bytes) bs bytes le (omega arith) (inl refl) inside (λ j lt. outside j (inl lt)) (λ j from to. outside j (inr from))

-- an area after a write past the end that found no memory
pub cells_loosened : (f g : ℕ → Bool) (at n : ℕ) (bs : List ℕ) → at ≤ length bs → length bs < at + n
    → ((j : ℕ) → at ≤ j → j < length bs → g j ≡ true) → ((j : ℕ) → (j < at) ⊎ (length bs ≤ j) → g j ≡ f j)
    → cells_from g 0 bs ≡ take at (cells_from f 0 bs) ++ map (λ (cell : Cell). loose_cell cell.byte) (take n (drop at (cells_from f 0 bs))) ++ drop (at + n) (cells_from f 0 bs)
cells_loosened f g at n bs le past inside outside =
    let mid = take n (drop at bs) in
    let size : length mid ≡ length bs - at = length-take n (drop at bs) ∙ omega (arith, length-drop at bs) in
    let whole : bs ≡ take at bs ++ mid ++ drop (at + n) bs =
    sym (append_assoc (take at bs) mid (drop (at + n) bs)
    ∙ ap (λ zs. take at bs ++ (mid ++ zs)) (sym (drop-drop n at bs))
    ∙ ap (λ zs. take at bs ++ zs) (take-append-drop n (drop at bs))
    ∙ take-append-drop at bs) in
    let made : map loose_cell mid ≡ map (λ (cell : Cell). loose_cell cell.byte) (take n (drop at (cells_from f 0 bs))) =
    sym (ap (λ (zs : List Cell). map (λ (cell : Cell). loose_cell cell.byte) (take n zs)) (drop-cells f at bs)
    ∙ ap (map (λ (cell : Cell). loose_cell cell.byte)) (take-cells f at n (drop at bs))
    ∙ loosened-cells f at mid) in
    ap (cells_from g 0) whole
    ∙ cells_over f g at n bs mid le (omega (arith, size)) (inr (omega arith)) (λ j from to. inside j from (omega (arith, size))) (λ j lt. outside j (inl lt)) (λ j from to. absurd (omega (arith, from, to)))
    ∙ ap (λ (zs : List Cell). take at (cells_from f 0 bs) ++ zs ++ drop (at + n) (cells_from f 0 bs)) made
