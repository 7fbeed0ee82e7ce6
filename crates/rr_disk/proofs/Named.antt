-- Each crash image is named by some cuts and a fill.
use Rattle.std.proofs.Common.{◌≡◌, ℕ, ◌+◌, ◌<◌, Bool, true, false, List, [], ◌∷◌, ◌++◌, length, get_or, take, All, refl, sym, ◌∙◌, ap, arith, if◌then◌else◌}
use Rattle.std.proofs.Math.Nat.{mod-eq_of_lt}
use Rattle.std.proofs.lemmas.List.{append_assoc, append-nil, get_or_at, length-append}
use Rattle.std.proofs.lemmas.List.Elements.{All-nil, All-cons, All-append}
use Rattle.rr_disk.specs.declared.cell.Cell.{Cell}
use Rattle.rr_disk.specs.Areas.{Extent, Areas}
use Rattle.rr_disk.specs.Crash.{Agrees, Images, MayLeave, IsCrashImage, IsNamed, clamped, filled, left_of, loose_count}
use Rattle.rr_disk.proofs.Agreeing.{agrees_length}

-- the bytes of an image that stand where cells are loose
abbrev picks : List Cell → List ℕ → List ℕ
picks cells [] = []
picks [] (b ∷ image) = []
picks (x ∷ cells) (b ∷ image) = if x.loose then b ∷ picks cells image else picks cells image

filled_at : (fill : List ℕ) (k own : ℕ) → k < length fill → filled fill k own ≡ get_or fill k 0
filled_at [] k own lt = absurd (omega arith)
filled_at (b ∷ fill) k own lt = ap (λ n. get_or (b ∷ fill) n 0) (mod-eq_of_lt lt)

-- the byte of a fill behind these
filled_behind : (fill pre rest : List ℕ) (b own : ℕ) → fill ≡ pre ++ b ∷ rest → filled fill (length pre) own ≡ b
filled_behind fill pre rest b own is =
    filled_at fill (length pre) own (omega (arith, ap length is, length-append pre (b ∷ rest))) ∙ ap (λ (bs : List ℕ). get_or bs (length pre) 0) is ∙ get_or_at pre b rest 0 (length pre) refl

-- cells that are filled with the bytes of an image are left with it
refill : (fill pre post : List ℕ) (cells : List Cell) (image : List ℕ) → Agrees cells image → fill ≡ pre ++ (picks cells image ++ post) → left_of fill (length pre) (take (length image) cells) ≡ image
refill fill pre post cells [] agrees is = refl
refill fill pre post [] (b ∷ image) agrees is = absurd agrees
refill fill pre post (x ∷ cells) (b ∷ image) agrees is =
    go (refill fill (pre ++ b ∷ []) post cells image agrees.2) (refill fill pre post cells image agrees.2) x.loose agrees.1 is
  where
    go : (fill ≡ (pre ++ b ∷ []) ++ (picks cells image ++ post) → left_of fill (length (pre ++ b ∷ [])) (take (length image) cells) ≡ image)
        → (fill ≡ pre ++ (picks cells image ++ post) → left_of fill (length pre) (take (length image) cells) ≡ image)
        → (loose : Bool) → (loose ≡ false → b ≡ x.byte) → fill ≡ pre ++ ((if loose then b ∷ picks cells image else picks cells image) ++ post)
        → (if loose then filled fill (length pre) x.byte ∷ left_of fill (length pre + 1) (take (length image) cells) else x.byte ∷ left_of fill (length pre) (take (length image) cells)) ≡ b ∷ image
    go more same true own is' =
        let first : filled fill (length pre) x.byte ≡ b = filled_behind fill pre (picks cells image ++ post) b x.byte is' in
        let rest : left_of fill (length pre + 1) (take (length image) cells) ≡ image =
        ap (λ n. left_of fill n (take (length image) cells)) (sym (length-append pre (b ∷ []))) ∙ more (is' ∙ sym (append_assoc pre (b ∷ []) (picks cells image ++ post))) in
        cc
    go more same false own is' =
        let rest = same is' in
        let here : b ≡ x.byte = own refl in
        cc

-- how many bytes the fill gave
count_picks : (cells : List Cell) (image : List ℕ) → Agrees cells image → loose_count (take (length image) cells) ≡ length (picks cells image)
count_picks cells [] agrees = refl
count_picks [] (b ∷ image) agrees = absurd agrees
count_picks (x ∷ cells) (b ∷ image) agrees = go (count_picks cells image agrees.2) x.loose
  where
    go : loose_count (take (length image) cells) ≡ length (picks cells image)
        → (loose : Bool) → (if loose then loose_count (take (length image) cells) + 1 else loose_count (take (length image) cells)) ≡ length (if loose then b ∷ picks cells image else picks cells image)
    go h true = omega (arith, h)
    go h false = h

picks_fit : (cells : List Cell) (image : List ℕ) → Agrees cells image → All (λ b. b < 256) (picks cells image)
picks_fit cells [] agrees = All-nil (λ b. b < 256)
picks_fit [] (b ∷ image) agrees = absurd agrees
picks_fit (x ∷ cells) (b ∷ image) agrees = go agrees.0 (picks_fit cells image agrees.2) x.loose
  where
    go : b < 256 → All (λ b. b < 256) (picks cells image) → (loose : Bool) → All (λ b. b < 256) (if loose then b ∷ picks cells image else picks cells image)
    go fit rest true = All-cons (λ b. b < 256) b (picks cells image) fit rest
    go fit rest false = rest

clamped_length : (extent : Extent) (image : List ℕ) → MayLeave extent image → clamped (length image) extent ≡ length image
clamped_length extent image may = omega (arith, may.no_shorter, agrees_length extent.cells image may.agrees)

pub named : (both : Areas) (images : Images) → IsCrashImage both images → IsNamed both images
named both images is =
    let one = images.of_first in
    let other = images.of_second in
    let p = picks both.first.cells one in
    let q = picks both.second.cells other in
    let fill = p ++ q in
    let cut_one = clamped_length both.first one is.may_first in
    let cut_other = clamped_length both.second other is.may_second in
    let count : loose_count (take (clamped (length one) both.first) both.first.cells) ≡ length p =
    ap (λ n. loose_count (take n both.first.cells)) cut_one ∙ count_picks both.first.cells one is.may_first.agrees in
    let left_one : left_of fill 0 (take (clamped (length one) both.first) both.first.cells) ≡ one =
    ap (λ n. left_of fill 0 (take n both.first.cells)) cut_one ∙ refill fill [] q both.first.cells one is.may_first.agrees refl in
    let left_other : left_of fill (loose_count (take (clamped (length one) both.first) both.first.cells)) (take (clamped (length other) both.second) both.second.cells) ≡ other =
    ap (λ n. left_of fill n (take (clamped (length other) both.second) both.second.cells)) count
    ∙ ap (λ n. left_of fill (length p) (take n both.second.cells)) cut_other
    ∙ refill fill p [] both.second.cells other is.may_second.agrees (ap (λ bs. p ++ bs) (sym (append-nil q))) in (
      length one,
      length other,
      fill,
      agrees_length both.first.cells one is.may_first.agrees,
      agrees_length both.second.cells other is.may_second.agrees,
      All-append (λ b. b < 256) p q (picks_fit both.first.cells one is.may_first.agrees) (picks_fit both.second.cells other is.may_second.agrees),
      λ i. record { of_first = left_one i; of_second = left_other i },
    )
