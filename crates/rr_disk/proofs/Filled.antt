-- What a crash leaves of cells, one after another.
use Rattle.std.proofs.Common.{◌≡◌, ℕ, zero, suc, ◌+◌, ◌%◌, All, ◌<◌, ◌≤◌, Bool, true, false, List, [], ◌∷◌, ◌++◌, length, get_or, set, take, drop, refl, sym, ◌∙◌, ap, arith, if◌then◌else◌}
use Rattle.std.proofs.lemmas.List.{append_assoc, take_more, take-append-drop, length-take, length-drop, length-take-le, set_at, drop_more, get_or_at}
use Rattle.std.proofs.lemmas.List.Elements.{All-nil, All-cons, All-head, All-tail, All-get_or}
use Rattle.rr_disk.specs.declared.cell.Cell.{Cell}
use Rattle.rr_disk.specs.Crash.{Agrees, filled, left_of, loose_count}
use Rattle.rr_disk.specs.Strips.{cells_from}
use Rattle.rr_disk.proofs.Strips.{length-cells, get_or-cells, take-cells, drop-cells}

pub loose_count-append : (xs ys : List Cell) → loose_count (xs ++ ys) ≡ loose_count xs + loose_count ys
loose_count-append [] ys = omega arith
loose_count-append (x ∷ xs) ys = go (loose_count-append xs ys) x.loose
  where
    go : loose_count (xs ++ ys) ≡ loose_count xs + loose_count ys → (b : Bool) → (if b then loose_count (xs ++ ys) + 1 else loose_count (xs ++ ys)) ≡ (if b then loose_count xs + 1 else loose_count xs) + loose_count ys
    go h true = omega (arith, h)
    go h false = h

pub left_of-append : (fill : List ℕ) (k : ℕ) (xs ys : List Cell) → left_of fill k (xs ++ ys) ≡ left_of fill k xs ++ left_of fill (k + loose_count xs) ys
left_of-append fill k [] ys = ap (λ n. left_of fill n ys) (omega arith)
left_of-append fill k (x ∷ xs) ys = go (left_of-append fill (k + 1) xs ys) (left_of-append fill k xs ys) x.loose
  where
    go : left_of fill (k + 1) (xs ++ ys) ≡ left_of fill (k + 1) xs ++ left_of fill (k + 1 + loose_count xs) ys
        → left_of fill k (xs ++ ys) ≡ left_of fill k xs ++ left_of fill (k + loose_count xs) ys
        → (b : Bool) → (if b then filled fill k x.byte ∷ left_of fill (k + 1) (xs ++ ys) else x.byte ∷ left_of fill k (xs ++ ys))
        ≡ (if b then filled fill k x.byte ∷ left_of fill (k + 1) xs else x.byte ∷ left_of fill k xs) ++ left_of fill (k + (if b then loose_count xs + 1 else loose_count xs)) ys
    go h g true = ap (λ zs. filled fill k x.byte ∷ zs) (h ∙ ap (λ n. left_of fill (k + 1) xs ++ left_of fill n ys) (omega arith))
    go h g false = ap (λ zs. x.byte ∷ zs) g

pub length-left_of : (fill : List ℕ) (k : ℕ) (xs : List Cell) → length (left_of fill k xs) ≡ length xs
length-left_of fill k [] = refl
length-left_of fill k (x ∷ xs) = go (length-left_of fill (k + 1) xs) (length-left_of fill k xs) x.loose
  where
    go : length (left_of fill (k + 1) xs) ≡ length xs → length (left_of fill k xs) ≡ length xs
        → (b : Bool) → length (if b then filled fill k x.byte ∷ left_of fill (k + 1) xs else x.byte ∷ left_of fill k xs) ≡ suc (length xs)
    go h g true = ap suc h
    go h g false = ap suc g

-- what one cell is left with
abbrev pub left_byte : List ℕ → ℕ → Cell → ℕ
left_byte fill k x = if x.loose then filled fill k x.byte else x.byte

pub left_one : (fill : List ℕ) (k : ℕ) (x : Cell) → left_of fill k (x ∷ []) ≡ left_byte fill k x ∷ []
left_one fill k x = go x.loose
  where
    go : (b : Bool) → (if b then filled fill k x.byte ∷ [] else x.byte ∷ []) ≡ (if b then filled fill k x.byte else x.byte) ∷ []
    go true = refl
    go false = refl

-- one more cell
pub left_more : (fill : List ℕ) (skip : ℕ) (xs : List Cell) (i : ℕ) (d : Cell) → i < length xs
    → left_of fill skip (take (i + 1) xs) ≡ left_of fill skip (take i xs) ++ left_byte fill (skip + loose_count (take i xs)) (get_or xs i d) ∷ []
left_more fill skip xs i d lt =
    ap (left_of fill skip) (take_more xs i d lt)
    ∙ left_of-append fill skip (take i xs) (get_or xs i d ∷ [])
    ∙ ap (λ zs. left_of fill skip (take i xs) ++ zs) (left_one fill (skip + loose_count (take i xs)) (get_or xs i d))

pub count_more : (xs : List Cell) (i : ℕ) (d : Cell) → i < length xs → loose_count (take (i + 1) xs) ≡ loose_count (take i xs) + (if (get_or xs i d).loose then 1 else 0)
count_more xs i d lt =
    ap loose_count (take_more xs i d lt)
    ∙ loose_count-append (take i xs) (get_or xs i d ∷ [])
    ∙ ap (λ n. loose_count (take i xs) + n) (go (get_or xs i d).loose)
  where
    go : (b : Bool) → (if b then 0 + 1 else 0) ≡ (if b then 1 else 0)
    go true = refl
    go false = refl

-- one more byte filled in place, or left
pub fill_more : (f : ℕ → Bool) (fill : List ℕ) (skip count : ℕ) (bs ys : List ℕ) (i : ℕ) → i < length bs → count ≡ loose_count (take i (cells_from f 0 bs))
    → ys ≡ left_of fill skip (take i (cells_from f 0 bs)) ++ drop i bs
    → set ys i (if f i then filled fill (skip + count) (get_or ys i 0) else get_or ys i 0) ≡ left_of fill skip (take (i + 1) (cells_from f 0 bs)) ++ drop (i + 1) bs
fill_more f fill skip count bs ys i lt counts is =
    let none : Cell = record { byte = 0; loose = false } in
    let cells = cells_from f 0 bs in
    let front = left_of fill skip (take i cells) in
    let x = get_or bs i 0 in
    let there : i < length cells = omega (arith, length-cells f 0 bs) in
    let long : length front ≡ i = length-left_of fill skip (take i cells) ∙ length-take-le i cells (omega arith) in
    let split : ys ≡ front ++ x ∷ drop (i + 1) bs = is ∙ ap (λ zs. front ++ zs) (drop_more bs i 0 lt) in
    let here : get_or ys i 0 ≡ x = ap (λ (zs : List ℕ). get_or zs i 0) split ∙ get_or_at front x (drop (i + 1) bs) 0 i long in
    let byte = left_byte fill (skip + loose_count (take i cells)) (get_or cells i none) in
    let value : (if f i then filled fill (skip + count) (get_or ys i 0) else get_or ys i 0) ≡ byte =
    ap (λ b. if f i then filled fill (skip + count) b else b) here
    ∙ ap (λ n. if f i then filled fill (skip + n) x else x) counts
    ∙ ap (λ (cell : Cell). left_byte fill (skip + loose_count (take i cells)) cell) (sym (get_or-cells f bs i none lt)) in
    ap (set ys i) value
    ∙ ap (λ (zs : List ℕ). set zs i byte) split
    ∙ set_at front x (drop (i + 1) bs) byte i long
    ∙ sym (append_assoc front (byte ∷ []) (drop (i + 1) bs))
    ∙ ap (λ zs. zs ++ drop (i + 1) bs) (sym (left_more fill skip cells i none there))

pub fill_count : (f : ℕ → Bool) (count more : ℕ) (bs : List ℕ) (i : ℕ) → i < length bs → count ≡ loose_count (take i (cells_from f 0 bs)) → more ≡ (if f i then 1 else 0)
    → count + more ≡ loose_count (take (i + 1) (cells_from f 0 bs))
fill_count f count more bs i lt counts one =
    let none : Cell = record { byte = 0; loose = false } in
    let cells = cells_from f 0 bs in
    let there : i < length cells = omega (arith, length-cells f 0 bs) in
    let step : more ≡ (if (get_or cells i none).loose then 1 else 0) = one ∙ ap (λ (cell : Cell). if cell.loose then 1 else 0) (sym (get_or-cells f bs i none lt)) in
    ap (λ n. n + more) counts ∙ ap (λ n. loose_count (take i cells) + n) step ∙ sym (count_more cells i none there)

-- where nothing is loose the bytes stay
pub firm_left : (f : ℕ → Bool) (fill : List ℕ) (skip k : ℕ) (bs : List ℕ) → ((j : ℕ) → k ≤ j → j < k + length bs → f j ≡ false) → (left_of fill skip (cells_from f k bs) ≡ bs) × (loose_count (cells_from f k bs) ≡ 0)
firm_left f fill skip k [] firm = (refl, refl)
firm_left f fill skip k (b ∷ bs) firm =
    let rest = firm_left f fill skip (k + 1) bs (λ j from to. firm j (omega arith) (omega arith)) in
    let here : f k ≡ false = firm k (omega arith) (omega arith) in (
      ap (λ (x : Bool). if x then filled fill skip b ∷ left_of fill (skip + 1) (cells_from f (k + 1) bs) else b ∷ left_of fill skip (cells_from f (k + 1) bs)) here ∙ ap (λ zs. b ∷ zs) rest.0,
      ap (λ (x : Bool). if x then loose_count (cells_from f (k + 1) bs) + 1 else loose_count (cells_from f (k + 1) bs)) here ∙ rest.1,
    )

-- before the first that is loose
pub fill_from : (f : ℕ → Bool) (fill : List ℕ) (skip i : ℕ) (bs : List ℕ) → ((j : ℕ) → j < i → f j ≡ false)
    → (bs ≡ left_of fill skip (take i (cells_from f 0 bs)) ++ drop i bs) × (0 ≡ loose_count (take i (cells_from f 0 bs)))
fill_from f fill skip i bs firm =
    let front = firm_left f fill skip 0 (take i bs) (λ j from to. firm j (omega (arith, length-take i bs))) in (
      sym (take-append-drop i bs) ∙ ap (λ zs. zs ++ drop i bs) (sym front.0 ∙ ap (left_of fill skip) (sym (take-cells f 0 i bs))),
      sym (ap loose_count (take-cells f 0 i bs) ∙ front.1),
    )

-- behind the last that is loose
pub fill_to : (f : ℕ → Bool) (fill : List ℕ) (skip i : ℕ) (bs : List ℕ) → ((j : ℕ) → i ≤ j → j < length bs → f j ≡ false)
    → (left_of fill skip (take i (cells_from f 0 bs)) ++ drop i bs ≡ left_of fill skip (cells_from f 0 bs)) × (loose_count (take i (cells_from f 0 bs)) ≡ loose_count (cells_from f 0 bs))
fill_to f fill skip i bs firm =
    let cells = cells_from f 0 bs in
    let k = skip + loose_count (take i cells) in
    let back = firm_left f fill k i (drop i bs) (λ j from to. firm j from (omega (arith, length-drop i bs))) in
    let rest : drop i cells ≡ cells_from f i (drop i bs) = drop-cells f i bs in
    let whole = take-append-drop i cells in (
      sym (
          ap (left_of fill skip) (sym whole)
          ∙ left_of-append fill skip (take i cells) (drop i cells)
          ∙ ap (λ zs. left_of fill skip (take i cells) ++ left_of fill k zs) rest
          ∙ ap (λ zs. left_of fill skip (take i cells) ++ zs) back.0),
      omega (arith, ap loose_count (sym whole), loose_count-append (take i cells) (drop i cells), ap loose_count rest, back.1),
    )

-- a byte of a fill is one
pub filled_fits : (fill : List ℕ) (k own : ℕ) → All (λ b. b < 256) fill → own < 256 → filled fill k own < 256
filled_fits [] k own fit small = small
filled_fits (b ∷ fill) k own fit small = All-get_or (λ b. b < 256) (b ∷ fill) (k % length (b ∷ fill)) 0 (omega arith) fit

-- what a crash leaves of these cells are bytes
pub left_fits : (fill : List ℕ) (k : ℕ) (cells : List Cell) → All (λ b. b < 256) fill → All (λ cell. cell.byte < 256) cells → All (λ b. b < 256) (left_of fill k cells)
left_fits fill k [] fit fits = All-nil (λ b. b < 256)
left_fits fill k (x ∷ cells) fit fits =
    let here = All-head (λ (cell : Cell). cell.byte < 256) x cells fits in
    let rest = All-tail (λ (cell : Cell). cell.byte < 256) x cells fits in
    go here (filled_fits fill k x.byte fit here) (left_fits fill (k + 1) cells fit rest) (left_fits fill k cells fit rest) x.loose
  where
    go : x.byte < 256 → filled fill k x.byte < 256 → All (λ b. b < 256) (left_of fill (k + 1) cells) → All (λ b. b < 256) (left_of fill k cells)
        → (b : Bool) → All (λ b. b < 256) (if b then filled fill k x.byte ∷ left_of fill (k + 1) cells else x.byte ∷ left_of fill k cells)
    go own by_fill more same true = All-cons (λ b. b < 256) (filled fill k x.byte) (left_of fill (k + 1) cells) by_fill more
    go own by_fill more same false = All-cons (λ b. b < 256) x.byte (left_of fill k cells) own same

-- and a crash may leave them
pub agrees_left : (fill : List ℕ) (k n : ℕ) (cells : List Cell) → All (λ b. b < 256) fill → All (λ cell. cell.byte < 256) cells → Agrees cells (left_of fill k (take n cells))
agrees_left fill k zero cells fit fits = tt
agrees_left fill k (suc n) [] fit fits = tt
agrees_left fill k (suc n) (x ∷ cells) fit fits =
    let here = All-head (λ (cell : Cell). cell.byte < 256) x cells fits in
    let rest = All-tail (λ (cell : Cell). cell.byte < 256) x cells fits in
    go here (filled_fits fill k x.byte fit here) (agrees_left fill (k + 1) n cells fit rest) (agrees_left fill k n cells fit rest) x.loose refl
  where
    go : x.byte < 256 → filled fill k x.byte < 256 → Agrees cells (left_of fill (k + 1) (take n cells)) → Agrees cells (left_of fill k (take n cells))
        → (b : Bool) → x.loose ≡ b → Agrees (x ∷ cells) (if b then filled fill k x.byte ∷ left_of fill (k + 1) (take n cells) else x.byte ∷ left_of fill k (take n cells))
    go own by_fill more same true is = (by_fill, λ firm. absurd (cc), more)
    go own by_fill more same false is = (own, λ firm. refl, same)
