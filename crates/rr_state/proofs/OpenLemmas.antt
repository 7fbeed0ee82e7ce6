-- The lowest undecided instances, before and after rows were put.
use Rattle.std.proofs.Common.{◌≡◌, ℕ, zero, suc, ◌+◌, ◌-◌, ◌<◌, ◌≤◌, Bool, true, false, not, ◌==◌, nat_lt, ◌||◌, ◌&&◌, if◌then◌else◌, List, [], ◌∷◌, ◌++◌, map, filter, length, take, drop, get_or, Option, None, Some, option_map, is_some, refl, ap, sym, ◌∙◌, arith, subst, eqb-true, append_assoc, append-nil}
use Rattle.std.specs.List.{list_any, All}
use Rattle.std.proofs.lemmas.Bool.{ne_eqb, lt-ltb, le-ltb, ltb-true, ltb-false, eqb-false}
use Rattle.std.proofs.lemmas.List.{take_more, drop_more, drop_all}
use Rattle.std.proofs.lemmas.List.Elements.{All-head, All-tail}
use Rattle.std.proofs.lemmas.Option.{none-some}
use Rattle.rr_types.specs.declared.command.Command.{Command}
use Rattle.rr_types.specs.declared.promise.Standing.{Standing}
use Rattle.rr_types.specs.declared.promise.Standing.TheVariants.{Decided, Open}
use Rattle.rr_types.specs.declared.promise.Entry.{Entry}
use Rattle.rr_types.specs.Facts.{decision_of}
use Rattle.rr_types.specs.Promises.{AscendsFrom}
use Rattle.rr_model.specs.NodeState.{Row, row_of, put_row, is_decided, decided_command, undecided_from, lowest_undecided}
use Rattle.rr_model.specs.NodeStep.{promised_row}
use Rattle.rr_state.specs.Listed.{put_rows, decision_at, KeepsDecisions}
use Rattle.rr_state.specs.Rowed.{AscendFrom, EachKeeps, is_undecided}
use Rattle.rr_state.specs.Opened.{open_in}
use Rattle.rr_state.proofs.TableLemmas.{decision_none, none_below}
use Rattle.rr_model.proofs.NodeRows.{row_of-put_row}
use Rattle.rr_state.proofs.NotedLemmas.{row_stays}

-- a row has decided where it has a decision
decided_is : (r : Row) (s : Standing) → r.standing ≡ s → is_decided r ≡ is_some (decided_command r)
decided_is r (Decided v) e = rw e refl
decided_is r (Open o) e = rw e refl

pub decided_row : (r : Row) → is_decided r ≡ is_some (decided_command r)
decided_row r = decided_is r r.standing refl

-- the rows begin with this one
decision_past : (r : Row) (rs : List Row) (i : ℕ) → (r.instance == i) ≡ false → decision_at (r ∷ rs) i ≡ decision_at rs i
decision_past r rs i h = ap (λ (b : Bool). decision_of (option_map (λ (x : Row). x.standing) (if b then Some r else row_of rs i))) h

decision_here : (r : Row) (rs : List Row) (i : ℕ) → (r.instance == i) ≡ true → decision_at (r ∷ rs) i ≡ decided_command r
decision_here r rs i h = ap (λ (b : Bool). decision_of (option_map (λ (x : Row). x.standing) (if b then Some r else row_of rs i))) h

not_some : {A : Type 0} (o : Option A) → o ≡ None → is_some o ≡ false
not_some o h = ap (λ x. is_some x) h

stop_by : (i : ℕ) (r : Row) (rs : List Row) → decision_at (r ∷ rs) i ≡ None → (decision_at rs i ≡ None → undecided_from i rs ≡ i) → (a b : Bool) → nat_lt r.instance i ≡ a → (r.instance == i) ≡ b → undecided_from i (r ∷ rs) ≡ i
stop_by i r rs h more true b l s =
    let m = ltb-true _ _ l in
    let o : (r.instance == i) ≡ false = ne_eqb _ _ (λ x. omega (arith, x)) in
    rw l (more (sym (decision_past r rs i o) ∙ h))
stop_by i r rs h more false true l s =
    let d : is_decided r ≡ false = decided_row r ∙ not_some (decided_command r) (sym (decision_here r rs i s) ∙ h) in
    rw (l, s, d)
stop_by i r rs h more false false l s = rw (l, s)

-- an undecided instance is the lowest from itself on
pub undecided_here : (i : ℕ) (rows : List Row) → decision_at rows i ≡ None → undecided_from i rows ≡ i
undecided_here i [] h = refl
undecided_here i (r ∷ rs) h = stop_by i r rs h (undecided_here i rs) (nat_lt r.instance i) (r.instance == i) refl refl

go_by : (low i : ℕ) (v : Command) (r : Row) (rs : List Row) → AscendFrom low (r ∷ rs) → decision_at (r ∷ rs) i ≡ Some v → (decision_at rs i ≡ Some v → undecided_from i rs ≡ undecided_from (i + 1) rs) → (a b : Bool) → nat_lt r.instance i ≡ a → (r.instance == i) ≡ b → undecided_from i (r ∷ rs) ≡ undecided_from (i + 1) (r ∷ rs)
go_by low i v r rs h d more true b l s =
    let m = ltb-true _ _ l in
    let o : (r.instance == i) ≡ false = ne_eqb _ _ (λ x. omega (arith, x)) in
    let n : nat_lt r.instance (i + 1) ≡ true = lt-ltb _ _ (omega arith) in
    rw (l, n) (more (sym (decision_past r rs i o) ∙ d))
go_by low i v r rs h d more false true l s =
    let e : r.instance ≡ i = eqb-true r.instance i s in
    let n : nat_lt r.instance (i + 1) ≡ true = lt-ltb _ _ (omega (arith, e)) in
    let c : is_decided r ≡ true = decided_row r ∙ ap (λ o. is_some o) (sym (decision_here r rs i s) ∙ d) in
    rw (l, s, n, c)
go_by low i v r rs h d more false false l s =
    let m = ltb-false _ _ l in
    let q : r.instance ≡ i → ⊥ = eqb-false _ _ s in
    let none : decision_at rs i ≡ None = decision_none rs i (none_below (r.instance + 1) rs i h.1 (omega (arith, m, q))) in
    absurd (none-some v (sym none ∙ sym (decision_past r rs i s) ∙ d))

-- from a decided instance on the lowest is that from the next one on
pub undecided_past : (low i : ℕ) (v : Command) (rows : List Row) → AscendFrom low rows → decision_at rows i ≡ Some v → undecided_from i rows ≡ undecided_from (i + 1) rows
undecided_past low i v [] h d = absurd (none-some v d)
undecided_past low i v (r ∷ rs) h d = go_by low i v r rs h d (undecided_past (r.instance + 1) i v rs h.1) (nat_lt r.instance i) (r.instance == i) refl refl

from_by : (i : ℕ) (r : Row) (rs : List Row) → i ≤ undecided_from i rs → i + 1 ≤ undecided_from (i + 1) rs → (a b : Bool) → nat_lt r.instance i ≡ a → (r.instance == i && is_decided r) ≡ b → i ≤ undecided_from i (r ∷ rs)
from_by i r rs same more true b l s = rw l same
from_by i r rs same more false true l s = rw (l, s) (omega arith)
from_by i r rs same more false false l s = rw (l, s) (omega arith)

pub undecided_from_le : (i : ℕ) (rows : List Row) → i ≤ undecided_from i rows
undecided_from_le i [] = omega arith
undecided_from_le i (r ∷ rs) = from_by i r rs (undecided_from_le i rs) (undecided_from_le (i + 1) rs) (nat_lt r.instance i) (r.instance == i && is_decided r) refl refl

either : {A Z : Type 0} (o : Option A) → (o ≡ None → Z) → ((x : A) → o ≡ Some x → Z) → Z
either None f g = f refl
either (Some x) f g = g x refl

-- the lowest after decisions is found from the lowest before them on
jump : (old new : List Row) → AscendFrom 0 old → AscendFrom 0 new → KeepsDecisions old new → (gap i : ℕ) → i + gap ≡ undecided_from i old → undecided_from i new ≡ undecided_from (i + gap) new
jump old new h g keeps zero i e = let o : i + 0 ≡ i = omega arith in ap (λ z. undecided_from z new) (sym o)
jump old new h g keeps (suc gap) i e =
    either (decision_at old i)
    (λ d. let s = undecided_here i old d in absurd (omega (arith, e, s)))
    (λ v d.
    let next : undecided_from i old ≡ undecided_from (i + 1) old = undecided_past 0 i v old h d in
    let o : i + 1 + gap ≡ i + suc gap = omega arith in
    undecided_past 0 i v new g (keeps i v d) ∙ jump old new h g keeps gap (i + 1) (o ∙ e ∙ next) ∙ ap (λ z. undecided_from z new) o)

pub undecided_jump : (old new : List Row) → AscendFrom 0 old → AscendFrom 0 new → KeepsDecisions old new → (i : ℕ) → undecided_from i new ≡ undecided_from (undecided_from i old) new
undecided_jump old new h g keeps i =
    let l = undecided_from_le i old in
    let e : i + (undecided_from i old - i) ≡ undecided_from i old = omega arith in
    jump old new h g keeps (undecided_from i old - i) i e ∙ ap (λ z. undecided_from z new) e

between : (rows : List Row) → AscendFrom 0 rows → (gap i : ℕ) → i + gap ≤ undecided_from i rows → undecided_from i rows ≡ undecided_from (i + gap) rows
between rows h zero i l = let o : i + 0 ≡ i = omega arith in ap (λ z. undecided_from z rows) (sym o)
between rows h (suc gap) i l =
    either (decision_at rows i)
    (λ d. let s = undecided_here i rows d in absurd (omega (arith, s)))
    (λ v d.
    let next : undecided_from i rows ≡ undecided_from (i + 1) rows = undecided_past 0 i v rows h d in
    let o : i + 1 + gap ≡ i + suc gap = omega arith in
    next ∙ between rows h gap (i + 1) (omega (arith, next)) ∙ ap (λ z. undecided_from z rows) o)

-- no undecided instance lies between
pub undecided_between : (rows : List Row) (i j : ℕ) → AscendFrom 0 rows → i ≤ j → j ≤ undecided_from i rows → undecided_from j rows ≡ undecided_from i rows
undecided_between rows i j h l m =
    let e : i + (j - i) ≡ j = omega arith in
    sym (between rows h (j - i) i (omega arith) ∙ ap (λ z. undecided_from z rows) e)

lowest_same : (n i j : ℕ) (rows : List Row) → undecided_from i rows ≡ undecided_from j rows → lowest_undecided n i rows ≡ lowest_undecided n j rows
lowest_same zero i j rows h = refl
lowest_same (suc n) i j rows h = rw h

lowest_none : (n i : ℕ) (rows : List Row) → 1048576 ≤ undecided_from i rows → lowest_undecided n i rows ≡ []
lowest_none zero i rows l = refl
lowest_none (suc n) i rows l = let t : nat_lt (undecided_from i rows) 1048576 ≡ false = le-ltb _ _ l in rw t

lowest_some : (n i : ℕ) (rows : List Row) → undecided_from i rows < 1048576 → lowest_undecided (suc n) i rows ≡ undecided_from i rows ∷ lowest_undecided n (undecided_from i rows + 1) rows
lowest_some n i rows l = let t : nat_lt (undecided_from i rows) 1048576 ≡ true = lt-ltb _ _ l in rw t

-- where the search for more goes on behind the n lowest
abbrev pub behind : ℕ → ℕ → List Row → ℕ
behind zero i rows = i
behind (suc n) i rows = behind n (undecided_from i rows + 1) rows

by_bool : {Z : Type 0} (b : Bool) → (b ≡ true → Z) → (b ≡ false → Z) → Z
by_bool true f g = f refl
by_bool false f g = g refl

by_bound : {Z : Type 0} (u : ℕ) → (u < 1048576 → Z) → (1048576 ≤ u → Z) → Z
by_bound u f g = by_bool (nat_lt u 1048576) (λ e. f (ltb-true _ _ e)) (λ e. g (let x = ltb-false _ _ e in omega (arith, x)))

module _ (old new : List Row) (h : AscendFrom 0 old) (g : AscendFrom 0 new) (keeps : KeepsDecisions old new) where
  -- the kept ones of the lowest, and as many more
  abbrev pub Slides : ℕ → ℕ → ℕ → Type 0
  Slides n i extra = filter (is_undecided new) (lowest_undecided n i old) ++ lowest_undecided (n + extra - length (filter (is_undecided new) (lowest_undecided n i old))) (behind n i old) new ≡ lowest_undecided (n + extra) i new

  slide_by : (n i extra : ℕ) → (let u = undecided_from i old in u < 1048576 → ((m : ℕ) → length (lowest_undecided n (u + 1) old) ≡ n → Slides n (u + 1) m) → length (lowest_undecided n (u + 1) old) ≡ n → (o : Option Command) → decision_at new u ≡ o → Slides (suc n) i extra)
  slide_by n i extra l more full (Some v) d =
      let u = undecided_from i old in
      let w : lowest_undecided (suc n) i old ≡ u ∷ lowest_undecided n (u + 1) old = lowest_some n i old l in
      let o : is_undecided new u ≡ false = ap (λ x. not (is_some x)) d in
      let same : undecided_from i new ≡ undecided_from (u + 1) new = undecided_jump old new h g keeps i ∙ undecided_past 0 u v new g d in
      let a : n + suc extra ≡ suc n + extra = omega arith in
      let f : filter (is_undecided new) (lowest_undecided (suc n) i old) ≡ filter (is_undecided new) (lowest_undecided n (u + 1) old) = ap (filter (is_undecided new)) w ∙ rw o refl in
      rw f (subst (λ z. filter (is_undecided new) (lowest_undecided n (u + 1) old) ++ lowest_undecided (z - length (filter (is_undecided new) (lowest_undecided n (u + 1) old))) (behind n (u + 1) old) new ≡ lowest_undecided z (u + 1) new) a (more (suc extra) full) ∙ lowest_same (suc n + extra) (u + 1) i new (sym same))
  slide_by n i extra l more full None d =
      let u = undecided_from i old in
      let w : lowest_undecided (suc n) i old ≡ u ∷ lowest_undecided n (u + 1) old = lowest_some n i old l in
      let o : is_undecided new u ≡ true = ap (λ x. not (is_some x)) d in
      let same : undecided_from i new ≡ u = undecided_jump old new h g keeps i ∙ undecided_here u new d in
      let f : filter (is_undecided new) (lowest_undecided (suc n) i old) ≡ u ∷ filter (is_undecided new) (lowest_undecided n (u + 1) old) = ap (filter (is_undecided new)) w ∙ rw o refl in
      let k : length (u ∷ filter (is_undecided new) (lowest_undecided n (u + 1) old)) ≡ suc (length (filter (is_undecided new) (lowest_undecided n (u + 1) old))) = refl in
      let b : suc n + extra - suc (length (filter (is_undecided new) (lowest_undecided n (u + 1) old))) ≡ n + extra - length (filter (is_undecided new) (lowest_undecided n (u + 1) old)) = omega arith in
      let c : suc n + extra ≡ suc (n + extra) = omega arith in
      let r : lowest_undecided (suc n + extra) i new ≡ u ∷ lowest_undecided (n + extra) (u + 1) new = ap (λ z. lowest_undecided z i new) c ∙ lowest_some (n + extra) i new (omega (arith, same)) ∙ ap (λ z. z ∷ lowest_undecided (n + extra) (z + 1) new) same in
      rw (f, b) (ap (λ z. u ∷ z) (more extra full) ∙ sym r)

  slide : (n i extra : ℕ) → length (lowest_undecided n i old) ≡ n → Slides n i extra
  slide zero i extra full = let e : 0 + extra - 0 ≡ 0 + extra = omega arith in ap (λ z. lowest_undecided z i new) e
  slide (suc n) i extra full =
      by_bound (undecided_from i old)
      (λ l.
      let w : length (lowest_undecided (suc n) i old) ≡ suc (length (lowest_undecided n (undecided_from i old + 1) old)) = ap (λ (x : List ℕ). length x) (lowest_some n i old l) in
      slide_by n i extra l (λ m. slide n (undecided_from i old + 1) m) (omega (arith, w, full)) (decision_at new (undecided_from i old)) refl)
      (λ l. let w : length (lowest_undecided (suc n) i old) ≡ 0 = ap (λ (x : List ℕ). length x) (lowest_none (suc n) i old l) in absurd (omega (arith, w, full)))

  short_by : (n i more : ℕ) → n ≤ more → (let u = undecided_from i old in u < 1048576 → ((m : ℕ) → n ≤ m → filter (is_undecided new) (lowest_undecided n (u + 1) old) ≡ lowest_undecided m (u + 1) new) → (o : Option Command) → decision_at new u ≡ o → filter (is_undecided new) (lowest_undecided (suc n) i old) ≡ lowest_undecided (suc more) i new)
  short_by n i more le l rest (Some v) d =
      let u = undecided_from i old in
      let o : is_undecided new u ≡ false = ap (λ x. not (is_some x)) d in
      let same : undecided_from i new ≡ undecided_from (u + 1) new = undecided_jump old new h g keeps i ∙ undecided_past 0 u v new g d in
      ap (filter (is_undecided new)) (lowest_some n i old l) ∙ rw o (rest (suc more) (omega arith)) ∙ lowest_same (suc more) (u + 1) i new (sym same)
  short_by n i more le l rest None d =
      let u = undecided_from i old in
      let o : is_undecided new u ≡ true = ap (λ x. not (is_some x)) d in
      let same : undecided_from i new ≡ u = undecided_jump old new h g keeps i ∙ undecided_here u new d in
      let r : lowest_undecided (suc more) i new ≡ u ∷ lowest_undecided more (u + 1) new = lowest_some more i new (omega (arith, same)) ∙ ap (λ z. z ∷ lowest_undecided more (z + 1) new) same in
      ap (filter (is_undecided new)) (lowest_some n i old l) ∙ rw o (ap (λ z. u ∷ z) (rest more le)) ∙ sym r

  -- where there are fewer than were looked for, none come behind them
  short : (n i more : ℕ) → n ≤ more → length (lowest_undecided n i old) < n → filter (is_undecided new) (lowest_undecided n i old) ≡ lowest_undecided more i new
  short zero i more le few = absurd (omega arith)
  short (suc n) i zero le few = absurd (omega arith)
  short (suc n) i (suc more) le few =
      by_bound (undecided_from i old)
      (λ l.
      let w : length (lowest_undecided (suc n) i old) ≡ suc (length (lowest_undecided n (undecided_from i old + 1) old)) = ap (λ (x : List ℕ). length x) (lowest_some n i old l) in
      short_by n i more (omega arith) l (λ m k. short n (undecided_from i old + 1) m k (omega (arith, w))) (decision_at new (undecided_from i old)) refl)
      (λ l.
      let up = undecided_from_le (undecided_from i old) new in
      let e = undecided_jump old new h g keeps i in
      ap (filter (is_undecided new)) (lowest_none (suc n) i old l) ∙ sym (lowest_none (suc more) i new (omega (arith, e))))

last_by : (n i : ℕ) (rows : List Row) (d : ℕ) → length (lowest_undecided (suc n) i rows) ≡ suc n → get_or (lowest_undecided (suc n) i rows) n d + 1 ≡ behind (suc n) i rows
last_by zero i rows d full =
    by_bound (undecided_from i rows) (λ l. ap (λ xs. get_or xs 0 d + 1) (lowest_some 0 i rows l))
    (λ l. let w : length (lowest_undecided 1 i rows) ≡ 0 = ap (λ (x : List ℕ). length x) (lowest_none 1 i rows l) in absurd (omega (arith, w, full)))
last_by (suc n) i rows d full =
    by_bound (undecided_from i rows)
    (λ l.
    let w : length (lowest_undecided (suc (suc n)) i rows) ≡ suc (length (lowest_undecided (suc n) (undecided_from i rows + 1) rows)) = ap (λ (x : List ℕ). length x) (lowest_some (suc n) i rows l) in
    ap (λ xs. get_or xs (suc n) d + 1) (lowest_some (suc n) i rows l) ∙ last_by n (undecided_from i rows + 1) rows d (omega (arith, w, full)))
    (λ l. let w : length (lowest_undecided (suc (suc n)) i rows) ≡ 0 = ap (λ (x : List ℕ). length x) (lowest_none (suc (suc n)) i rows l) in absurd (omega (arith, w, full)))

-- the window after more decisions: those of it that are left, and more from behind its last one on
pub slides : (old new : List Row) (window : List ℕ) (d : ℕ) → AscendFrom 0 old → AscendFrom 0 new → KeepsDecisions old new → window ≡ open_in old → length window ≡ 8 → filter (is_undecided new) window ++ lowest_undecided (8 - length (filter (is_undecided new) window)) (get_or window 7 d + 1) new ≡ open_in new
unfolding open_in
slides old new window d h g keeps w full =
    let all : length (lowest_undecided 8 0 old) ≡ 8 = ap (λ (x : List ℕ). length x) (sym w) ∙ full in
    let e : 8 + 0 ≡ 8 = omega arith in
    ap (λ x. filter (is_undecided new) x ++ lowest_undecided (8 - length (filter (is_undecided new) x)) (get_or x 7 d + 1) new) w
    ∙ ap (λ z. filter (is_undecided new) (lowest_undecided 8 0 old) ++ lowest_undecided (8 - length (filter (is_undecided new) (lowest_undecided 8 0 old))) z new) (last_by 7 0 old d all)
    ∙ slide old new h g keeps 8 0 0 all

-- where the window shows fewer than eight, there are no more
pub runs_short : (old new : List Row) (window : List ℕ) → AscendFrom 0 old → AscendFrom 0 new → KeepsDecisions old new → window ≡ open_in old → length window < 8 → filter (is_undecided new) window ≡ open_in new
unfolding open_in
runs_short old new window h g keeps w few =
    let all : length (lowest_undecided 8 0 old) ≡ length window = ap (λ (x : List ℕ). length x) (sym w) in
    ap (filter (is_undecided new)) w ∙ short old new h g keeps 8 0 8 (omega arith) (omega (arith, all))

none_of : {A : Type 0} (o : Option A) → is_some o ≡ false → o ≡ None
none_of None h = refl
none_of (Some x) h = cc

neither : (a b : Bool) → (a || b) ≡ false → (a ≡ false) × (b ≡ false)
neither true b h = cc
neither false b h = (refl, h)

-- a row that hasn't decided leaves an undecided instance so
undecided_put : (c : Row) (rows : List Row) (i : ℕ) → is_decided c ≡ false → decision_at rows i ≡ None → decision_at (put_row c rows) i ≡ None
undecided_put c rows i d h = ap (λ (x : Option Row). decision_of (option_map (λ (r : Row). r.standing) x)) (row_of-put_row c rows i) ∙ by (c.instance == i)
  where
    by : (b : Bool) → decision_of (option_map (λ (r : Row). r.standing) (if b then Some c else row_of rows i)) ≡ None
    by true = none_of (decided_command c) (sym (decided_row c) ∙ d)
    by false = h

undecided_puts : (rows changes : List Row) (i : ℕ) → decision_at rows i ≡ None → list_any (λ r. is_decided r) changes ≡ false → decision_at (put_rows rows changes) i ≡ None
undecided_puts rows [] i h n = h
undecided_puts rows (c ∷ cs) i h n =
    let s = neither (is_decided c) (list_any (λ r. is_decided r) cs) n in
    undecided_puts (put_row c rows) cs i (undecided_put c rows i s.0 h) s.1

-- the lowest undecided instance is undecided
lowest_is : (rows : List Row) (i : ℕ) → AscendFrom 0 rows → decision_at rows (undecided_from i rows) ≡ None
lowest_is rows i h =
    let u = undecided_from i rows in
    either (decision_at rows u) (λ d. d)
    (λ v d.
    let le = undecided_from_le i rows in
    let same : undecided_from u rows ≡ u = undecided_between rows i u h le (omega arith) in
    let next : undecided_from u rows ≡ undecided_from (u + 1) rows = undecided_past 0 u v rows h d in
    let more = undecided_from_le (u + 1) rows in
    absurd (omega (arith, same, next, more)))

lowest_alike : (n i : ℕ) (old new : List Row) → ((j : ℕ) → undecided_from j new ≡ undecided_from j old) → lowest_undecided n i new ≡ lowest_undecided n i old
lowest_alike zero i old new h = refl
lowest_alike (suc n) i old new h = rw (h i) (ap (λ (xs : List ℕ). if nat_lt (undecided_from i old) 1048576 then undecided_from i old ∷ xs else []) (lowest_alike n (undecided_from i old + 1) old new h))

-- the open instances stay where none of the rows that were put has decided
pub open_stays : (old new changes : List Row) → AscendFrom 0 old → AscendFrom 0 new → KeepsDecisions old new → new ≡ put_rows old changes → list_any (λ r. is_decided r) changes ≡ false → open_in new ≡ open_in old
unfolding open_in
open_stays old new changes h g keeps put none =
    lowest_alike 8 0 old new (λ j.
    undecided_jump old new h g keeps j
    ∙ undecided_here (undecided_from j old) new (ap (λ (rows : List Row). decision_at rows (undecided_from j old)) put ∙ undecided_puts old changes (undecided_from j old) (lowest_is old j h) none))

pub open_is : (rows : List Row) (window : List ℕ) → window ≡ open_in rows → window ≡ lowest_undecided 8 0 rows
unfolding open_in
open_is rows window h = h

pub is_filled : (rows : List Row) → [] ++ lowest_undecided (8 - 0) 0 rows ≡ open_in rows
unfolding open_in
is_filled rows = let e : 8 - 0 ≡ 8 = omega arith in ap (λ z. lowest_undecided z 0 rows) e

-- a number behind undecided and decided instances
pub stops_here : (i : ℕ) (rows : List Row) → false ≡ is_some (decision_at rows i) → undecided_from i rows ≡ i
stops_here i rows h = either (decision_at rows i) (λ d. undecided_here i rows d) (λ v d. let x = ap (λ o. is_some o) d in let y : false ≡ true = h ∙ x in cc)

pub goes_on : (i : ℕ) (rows : List Row) → AscendFrom 0 rows → true ≡ is_some (decision_at rows i) → undecided_from (i + 1) rows ≡ undecided_from i rows
goes_on i rows a h = either (decision_at rows i) (λ d. let x = ap (λ o. is_some o) d in let y : true ≡ false = h ∙ x in cc) (λ v d. sym (undecided_past 0 i v rows a d))

-- the first of the open instances that isn't below a number
pub open_from : (rows : List Row) (i from x n : ℕ) → AscendFrom 0 rows → i ≤ from → x ≡ undecided_from i rows → n ≡ x → from ≤ n → n ≡ undecided_from from rows
open_from rows i from x n h l e f m = f ∙ e ∙ sym (undecided_between rows i from h l (omega (arith, e, f)))

some_left : (n i : ℕ) (rows : List Row) → lowest_undecided (suc n) i rows ≡ [] → 1048576 ≤ undecided_from i rows
some_left n i rows h =
    by_bound (undecided_from i rows)
    (λ l. let w : length (lowest_undecided (suc n) i rows) ≡ 0 = ap (λ (x : List ℕ). length x) h in let f : length (lowest_undecided (suc n) i rows) ≡ suc (length (lowest_undecided n (undecided_from i rows + 1) rows)) = ap (λ (x : List ℕ). length x) (lowest_some n i rows l) in absurd (omega (arith, w, f)))
    (λ l. l)

-- where the open instances end before they are eight, nothing behind them is undecided
pub none_left : (rows : List Row) (i from n : ℕ) → AscendFrom 0 rows → i ≤ from → from ≤ 1048576 → n < 8 → [] ≡ lowest_undecided (8 - n) i rows → undecided_from 1048576 rows ≡ undecided_from from rows
none_left rows i from n h l m few e =
    let z : 8 - n ≡ suc (7 - n) = omega arith in
    let up = some_left (7 - n) i rows (ap (λ k. lowest_undecided k i rows) (sym z) ∙ sym e) in
    undecided_between rows i 1048576 h (omega arith) up ∙ sym (undecided_between rows i from h l (omega (arith, up)))

-- one more of the lowest undecided instances, and the end of them
pub lowest_next : (n turn from : ℕ) (rows : List Row) → turn < n → undecided_from from rows < 1048576 → lowest_undecided (n - turn) from rows ≡ undecided_from from rows ∷ lowest_undecided (n - (turn + 1)) (undecided_from from rows + 1) rows
lowest_next n turn from rows h l =
    let e : n - turn ≡ suc (n - (turn + 1)) = omega arith in
    rw e (lowest_some (n - (turn + 1)) from rows l)

pub lowest_done : (found : List ℕ) (n from : ℕ) (rows : List Row) → 1048576 ≤ undecided_from from rows → found ++ lowest_undecided n from rows ≡ found
lowest_done found n from rows l = rw (lowest_none n from rows l) (append-nil found)

pub push_next : {X : Type 0} (xs ys : List X) (y : X) → (xs ++ y ∷ []) ++ ys ≡ xs ++ y ∷ ys
push_next xs ys y = append_assoc xs (y ∷ []) ys

length_push : (xs : List ℕ) (y : ℕ) → length (xs ++ y ∷ []) ≡ suc (length xs)
length_push [] y = refl
length_push (x ∷ xs) y = ap (λ n. suc n) (length_push xs y)

-- one more is found
pub fill_step : (rows : List Row) (found after total : List ℕ) (room turn from i n : ℕ) → turn < room → after ≡ found ++ i ∷ [] → i ≡ undecided_from from rows → n ≡ i → i < 1048576 → found ++ lowest_undecided (room - turn) from rows ≡ total → after ++ lowest_undecided (room - (turn + 1)) (n + 1) rows ≡ total
fill_step rows found after total room turn from i n l a u e b h =
    let next = lowest_next room turn from rows l (omega (arith, u, b)) in
    let m : n ≡ undecided_from from rows = e ∙ u in
    ap (λ xs. xs ++ lowest_undecided (room - (turn + 1)) (n + 1) rows) a
    ∙ push_next found (lowest_undecided (room - (turn + 1)) (n + 1) rows) i
    ∙ ap (λ z. found ++ z ∷ lowest_undecided (room - (turn + 1)) (n + 1) rows) u
    ∙ ap (λ z. found ++ undecided_from from rows ∷ lowest_undecided (room - (turn + 1)) (z + 1) rows) m
    ∙ ap (λ xs. found ++ xs) (sym next) ∙ h

pub fill_few : (found after : List ℕ) (room turn i : ℕ) → turn < room → after ≡ found ++ i ∷ [] → length found + (room - turn) ≤ 8 → length after + (room - (turn + 1)) ≤ 8
fill_few found after room turn i l a h =
    let x : length after ≡ suc (length found) = ap (λ (z : List ℕ). length z) a ∙ length_push found i in
    omega (arith, x)

-- rows put over instances that haven't decided keep what is decided
stays_by : (rows changes : List Row) (i : ℕ) (v : Command) → All (λ c. decision_at rows c.instance ≡ None) changes → decision_at rows i ≡ Some v → list_any (λ j. j == i) (map (λ (r : Row). r.instance) changes) ≡ false
stays_by rows [] i v a d = refl
stays_by rows (c ∷ cs) i v a d =
    let more = stays_by rows cs i v (All-tail (λ (r : Row). decision_at rows r.instance ≡ None) c cs a) d in
    at (All-head (λ (r : Row). decision_at rows r.instance ≡ None) c cs a) more (c.instance == i) refl
  where
    at : decision_at rows c.instance ≡ None → list_any (λ j. j == i) (map (λ (r : Row). r.instance) cs) ≡ false → (b : Bool) → (c.instance == i) ≡ b → (b || list_any (λ j. j == i) (map (λ (r : Row). r.instance) cs)) ≡ false
    at n m true e = absurd (none-some v (sym n ∙ ap (decision_at rows) (eqb-true c.instance i e) ∙ d))
    at n m false e = m

pub keeps_over : (rows changes : List Row) → All (λ c. decision_at rows c.instance ≡ None) changes → KeepsDecisions rows (put_rows rows changes)
keeps_over rows changes a i v d = ap (λ o. decision_of (option_map (λ (r : Row). r.standing) o)) (row_stays rows changes i (stays_by rows changes i v a d)) ∙ d

-- the kept ones so far
pub filter_push : (p : ℕ → Bool) (xs : List ℕ) (x : ℕ) → filter p (xs ++ x ∷ []) ≡ filter p xs ++ (if p x then x ∷ [] else [])
filter_push p [] x = at (p x)
  where
    at : (b : Bool) → (if b then x ∷ [] else []) ≡ [] ++ (if b then x ∷ [] else [])
    at true = refl
    at false = refl
filter_push p (y ∷ ys) x = at (p y) (filter_push p ys x)
  where
    at : (b : Bool) → filter p (ys ++ x ∷ []) ≡ filter p ys ++ (if p x then x ∷ [] else []) → (if b then y ∷ filter p (ys ++ x ∷ []) else filter p (ys ++ x ∷ [])) ≡ (if b then y ∷ filter p ys else filter p ys) ++ (if p x then x ∷ [] else [])
    at true h = ap (λ z. y ∷ z) h
    at false h = h

filter_at : (p : ℕ → Bool) (xs : List ℕ) (k x : ℕ) (b : Bool) → k < length xs → x ≡ get_or xs k x → p x ≡ b → filter p (take (k + 1) xs) ≡ filter p (take k xs) ++ (if b then x ∷ [] else [])
filter_at p xs k x b l e t =
    ap (filter p) (take_more xs k x l ∙ ap (λ y. take k xs ++ y ∷ []) (sym e)) ∙ filter_push p (take k xs) x ∙ ap (λ (c : Bool). filter p (take k xs) ++ (if c then x ∷ [] else [])) t

pub filter_keeps : (p : ℕ → Bool) (xs : List ℕ) (k x : ℕ) → k < length xs → x ≡ get_or xs k x → p x ≡ true → filter p (take (k + 1) xs) ≡ filter p (take k xs) ++ x ∷ []
filter_keeps p xs k x l e t = filter_at p xs k x true l e t

pub filter_drops : (p : ℕ → Bool) (xs : List ℕ) (k x : ℕ) → k < length xs → x ≡ get_or xs k x → p x ≡ false → filter p (take (k + 1) xs) ≡ filter p (take k xs)
filter_drops p xs k x l e t = filter_at p xs k x false l e t ∙ append-nil (filter p (take k xs))

-- one more of the open instances
pub open_here : (n i : ℕ) (rows : List Row) (all : List ℕ) (k x : ℕ) → k < length all → x ≡ get_or all k x → drop k all ≡ lowest_undecided n i rows → (x ≡ undecided_from i rows) × (drop (k + 1) all ≡ lowest_undecided (n - 1) (x + 1) rows)
open_here n i rows all k x l e h =
    let d : drop k all ≡ x ∷ drop (k + 1) all = drop_more all k x l ∙ ap (λ (y : ℕ). y ∷ drop (k + 1) all) (sym e) in
    at n (sym d ∙ h)
  where
    at : (n : ℕ) → x ∷ drop (k + 1) all ≡ lowest_undecided n i rows → (x ≡ undecided_from i rows) × (drop (k + 1) all ≡ lowest_undecided (n - 1) (x + 1) rows)
    at zero g = let w : suc (length (drop (k + 1) all)) ≡ 0 = ap (λ (y : List ℕ). length y) g in absurd (omega arith)
    at (suc m) g =
        by_bound (undecided_from i rows)
        (λ b.
        let f = g ∙ lowest_some m i rows b in
        let is : x ≡ undecided_from i rows = ap (λ (y : List ℕ). get_or y 0 x) f in
        let o : suc m - 1 ≡ m = omega arith in
        (is, ap (λ (y : List ℕ). drop 1 y) f ∙ ap (λ z. lowest_undecided m (z + 1) rows) (sym is) ∙ ap (λ z. lowest_undecided z (x + 1) rows) (sym o)))
        (λ b. let w : suc (length (drop (k + 1) all)) ≡ 0 = ap (λ (y : List ℕ). length y) (g ∙ lowest_none (suc m) i rows b) in absurd (omega arith))

-- a row above the others goes last
abbrev pub AreBelow : ℕ → List Row → Type 0
AreBelow low [] = Unit {0}
AreBelow low (r ∷ rs) = (r.instance < low) × AreBelow low rs

put_behind : (row : Row) (rows : List Row) → AreBelow row.instance rows → put_row row rows ≡ rows ++ row ∷ []
put_behind row [] h = refl
put_behind row (r ∷ rs) h =
    let k = h.0 in
    let a : nat_lt row.instance r.instance ≡ false = le-ltb _ _ (omega arith) in
    let b : (row.instance == r.instance) ≡ false = ne_eqb _ _ (λ x. omega (arith, x)) in
    rw (a, b) (ap (λ z. r ∷ z) (put_behind row rs h.1))

below_push : (low : ℕ) (rows : List Row) (row : Row) → AreBelow low rows → row.instance < low → AreBelow low (rows ++ row ∷ [])
below_push low [] row h l = (l, tt)
below_push low (r ∷ rs) row h l = (h.0, below_push low rs row h.1 l)

below_more : (low high : ℕ) (rows : List Row) → low ≤ high → AreBelow low rows → AreBelow high rows
below_more low high [] l h = tt
below_more low high (r ∷ rs) l h = let k = h.0 in (omega arith, below_more low high rs l h.1)

put_promise : (next low : ℕ) (rows : List Row) (es : List Entry) → AscendsFrom low es → AreBelow low rows → put_rows rows (map (promised_row next) es) ≡ rows ++ map (promised_row next) es
put_promise next low rows [] h b = sym (append-nil rows)
put_promise next low rows (e ∷ es) h b =
    let l = h.0 in
    let below : AreBelow e.instance rows = below_more low e.instance rows (omega arith) b in
    let row = promised_row next e in
    ap (λ rs. put_rows rs (map (promised_row next) es)) (put_behind row rows below)
    ∙ put_promise next (e.instance + 1) (rows ++ row ∷ []) es h.1 (below_push (e.instance + 1) rows row (below_more e.instance (e.instance + 1) rows (omega arith) below) (omega arith))
    ∙ append_assoc rows (row ∷ []) (map (promised_row next) es)

-- the rows of a promise put into no rows
pub promise_rows : (next : ℕ) (es : List Entry) → AscendsFrom 0 es → put_rows [] (map (promised_row next) es) ≡ map (promised_row next) es
promise_rows next es h = put_promise next 0 [] es h tt

-- a row above the others changes no decision
none_above : (low : ℕ) (rows : List Row) (i : ℕ) → AreBelow low rows → low ≤ i → row_of rows i ≡ None
none_above low [] i h l = refl
none_above low (r ∷ rs) i h l =
    let k = h.0 in
    let e : (r.instance == i) ≡ false = ne_eqb _ _ (λ x. omega (arith, x)) in
    rw e (none_above low rs i h.1 l)

keeps_above : (row : Row) (rows : List Row) → AreBelow row.instance rows → KeepsDecisions rows (put_row row rows)
keeps_above row rows h i v d = at (row.instance == i) refl
  where
    at : (b : Bool) → (row.instance == i) ≡ b → decision_at (put_row row rows) i ≡ Some v
    at true e = absurd (none-some v (sym (decision_none rows i (none_above row.instance rows i h (let x = eqb-true row.instance i e in omega (arith, x)))) ∙ d))
    at false e = ap (λ (o : Option Row). decision_of (option_map (λ (r : Row). r.standing) o)) (row_of-put_row row rows i ∙ rw e) ∙ d

keeps_promise : (next low : ℕ) (rows : List Row) (es : List Entry) → AscendsFrom low es → AreBelow low rows → EachKeeps rows (map (promised_row next) es)
keeps_promise next low rows [] h b = tt
keeps_promise next low rows (e ∷ es) h b =
    let l = h.0 in
    let row = promised_row next e in
    let below : AreBelow e.instance rows = below_more low e.instance rows (omega arith) b in
    let more : AreBelow (e.instance + 1) (rows ++ row ∷ []) = below_push (e.instance + 1) rows row (below_more e.instance (e.instance + 1) rows (omega arith) below) (omega arith) in
    (keeps_above row rows below, keeps_promise next (e.instance + 1) (put_row row rows) es h.1 (subst (AreBelow (e.instance + 1)) (sym (put_behind row rows below)) more))

-- so that of a promise each row can be put
pub promise_keeps : (next : ℕ) (es : List Entry) → AscendsFrom 0 es → EachKeeps [] (map (promised_row next) es)
promise_keeps next es h = keeps_promise next 0 [] es h tt

rows_at : (next : ℕ) (es : List Entry) (k : ℕ) (e : Entry) → k < length es → e ≡ get_or es k e → map (promised_row next) (drop k es) ≡ promised_row next e ∷ map (promised_row next) (drop (k + 1) es)
rows_at next es k e l g = ap (map (promised_row next)) (drop_more es k e l ∙ ap (λ (y : Entry). y ∷ drop (k + 1) es) (sym g))

pub restore_more : (next : ℕ) (rows : List Row) (es : List Entry) (k : ℕ) (e : Entry) → k < length es → e ≡ get_or es k e → put_rows rows (map (promised_row next) (drop k es)) ≡ put_rows (put_rows rows (promised_row next e ∷ [])) (map (promised_row next) (drop (k + 1) es))
restore_more next rows es k e l g = ap (put_rows rows) (rows_at next es k e l g)

pub keeps_here : (next : ℕ) (rows : List Row) (es : List Entry) (k : ℕ) (e : Entry) → k < length es → e ≡ get_or es k e → EachKeeps rows (map (promised_row next) (drop k es)) → KeepsDecisions rows (put_rows rows (promised_row next e ∷ []))
keeps_here next rows es k e l g h = let P : List Row → Type 0 = λ r. EachKeeps rows r in (subst P (rows_at next es k e l g) h).0

pub keeps_more : (next : ℕ) (rows : List Row) (es : List Entry) (k : ℕ) (e : Entry) → k < length es → e ≡ get_or es k e → EachKeeps rows (map (promised_row next) (drop k es)) → EachKeeps (put_rows rows (promised_row next e ∷ [])) (map (promised_row next) (drop (k + 1) es))
keeps_more next rows es k e l g h = let P : List Row → Type 0 = λ r. EachKeeps rows r in (subst P (rows_at next es k e l g) h).1

pub restore_end : (next : ℕ) (rows : List Row) (es : List Entry) (k : ℕ) → length es ≤ k → put_rows rows (map (promised_row next) (drop k es)) ≡ rows
restore_end next rows es k l = ap (λ (r : List Entry). put_rows rows (map (promised_row next) r)) (drop_all k es l)
