-- The lines of a report, shared out among the events: which are those of the next event.
use Rattle.std.proofs.Common.{◌≡◌, ◌<◌, ◌≤◌, ◌++◌, ◌+◌, ◌-◌, ◌∷◌, [], ℕ, zero, suc, List, Some, length, take, drop, get_or, map, refl, ap, subst, sym, ◌∙◌, arith}
use Rattle.std.specs.Prelude.{slice_get, slice_range}
use Rattle.std.specs.List.{flat_map}
use Rattle.std.proofs.lemmas.List.{append_assoc, append-nil, length-append}
use Rattle.std.proofs.Math.Seq.{drop-cons}
use Rattle.rr_text.specs.declared.event.Event.{Event}
use Rattle.rr_text.specs.declared.report.ReportLine.{ReportLine}
use Rattle.rr_account.specs.declared.outcome.Outcome.{Outcome}
use Rattle.rr_account.specs.Accounts.{Accounted, lines_told, IsSharedOut}

-- all of the shares, one after the other
abbrev pub joined : List (List ReportLine) → List ReportLine
joined shares = flat_map (λ ls. ls) shares

-- the share at a place stands behind those before it
split_at : (shares : List (List ReportLine)) (index : ℕ) (ls : List ReportLine) → slice_get shares index ≡ Some ls
    → joined shares ≡ joined (take index shares) ++ (ls ++ joined (drop (suc index) shares))
split_at [] index ls is = absurd cc
split_at (s ∷ ss) zero ls is = let same : s ≡ ls = cc in ap (λ (x : List ReportLine). x ++ joined ss) same
split_at (s ∷ ss) (suc index) ls is =
    ap (λ (x : List ReportLine). s ++ x) (split_at ss index ls is)
    ∙ sym (append_assoc s (joined (take index ss)) (ls ++ joined (drop (suc index) ss)))

one_more : (shares : List (List ReportLine)) (index : ℕ) (ls : List ReportLine) → slice_get shares index ≡ Some ls
    → joined (take (suc index) shares) ≡ joined (take index shares) ++ ls
one_more [] index ls is = absurd cc
one_more (s ∷ ss) zero ls is = let same : s ≡ ls = cc in append-nil s ∙ same
one_more (s ∷ ss) (suc index) ls is =
    ap (λ (x : List ReportLine). s ++ x) (one_more ss index ls is) ∙ sym (append_assoc s (joined (take index ss)) ls)

-- the share at a place, and its outcome
share_at : (shares : List (List ReportLine)) (outcomes : List Outcome) (index : ℕ) → map length shares ≡ map lines_told outcomes → index < length shares
    → (ls : List ReportLine) × (o : Outcome) × (slice_get shares index ≡ Some ls) × (slice_get outcomes index ≡ Some o) × (length ls ≡ lines_told o)
share_at [] outcomes index same within = absurd (omega (arith, within))
share_at (s ∷ ss) [] index same within = absurd cc
share_at (s ∷ ss) (o ∷ os) zero same within = (s, o, refl, refl, cc)
share_at (s ∷ ss) (o ∷ os) (suc index) same within = let rest : map length ss ≡ map lines_told os = cc in share_at ss os index rest (omega (arith, within))

-- so many lines are those of the events before this index
pub record StandsAt (shares : List (List ReportLine)) (index count : ℕ) : Type 0 where
  pub count_is : count ≡ length (joined (take index shares))

pub stands_first : (shares : List (List ReportLine)) → StandsAt shares 0 0
stands_first shares = record { count_is = refl }

-- the share of the event at an index: its outcome, its place among the lines, and what stands behind it
pub record ShareAt (account : Accounted) (shares : List (List ReportLine)) (index count : ℕ) : Type 0 where
  pub share : List ReportLine
  pub outcome : Outcome
  pub here : slice_get shares index ≡ Some share
  pub outcome_here : slice_get account.outcomes index ≡ Some outcome
  pub size : length share ≡ lines_told outcome
  pub lies : slice_range account.report.lines count (count + length share) ≡ share
  pub fits : count + lines_told outcome ≤ length account.report.lines
  pub front : take count account.report.lines ++ share ≡ take (count + length share) account.report.lines
  pub next : StandsAt shares (index + 1) (count + length share)

take_front : (xs ys : List ReportLine) → take (length xs) (xs ++ ys) ≡ xs
take_front [] ys = refl
take_front (x ∷ xs) ys = ap (λ (zs : List ReportLine). x ∷ zs) (take_front xs ys)

drop_front : (xs ys : List ReportLine) → drop (length xs) (xs ++ ys) ≡ ys
drop_front [] ys = refl
drop_front (x ∷ xs) ys = drop_front xs ys

-- where lines stand in the middle
middle : (lines before share behind : List ReportLine) (count : ℕ) → lines ≡ before ++ (share ++ behind) → count ≡ length before
    → (take count lines ≡ before) × (take (length share) (drop count lines) ≡ share) × (take (count + length share) lines ≡ before ++ share) × (count + length share ≤ length lines)
middle lines before share behind count is at = (
  ap (λ (k : ℕ). take k lines) at ∙ ap (take (length before)) is ∙ take_front before (share ++ behind),
  ap (λ (k : ℕ). take (length share) (drop k lines)) at ∙ ap (λ (ls : List ReportLine). take (length share) (drop (length before) ls)) is ∙ ap (take (length share)) (drop_front before (share ++ behind)) ∙ take_front share behind,
  (let sum : count + length share ≡ length (before ++ share) = omega (arith, at, length-append before share) in
      ap (λ (k : ℕ). take k lines) sum ∙ ap (take (length (before ++ share))) (is ∙ sym (append_assoc before share behind)) ∙ take_front (before ++ share) behind),
  (let all : length lines ≡ length (before ++ (share ++ behind)) = ap length is in
      omega (arith, at, all, length-append before (share ++ behind), length-append share behind)),
)

pub share_here : (account : Accounted) (shares : List (List ReportLine)) (index count : ℕ) → IsSharedOut account shares → index < length account.schedule.events → StandsAt shares index count
    → ShareAt account shares index count
share_here account shares index count out within at =
    let (share, outcome, here, outcome_here, size) = share_at shares account.outcomes index out.counts (omega (arith, within, out.one_each)) in
    let whole = out.all ∙ split_at shares index share here in
    let (first, lies, both, fits) = middle account.report.lines (joined (take index shares)) share (joined (drop (suc index) shares)) count whole at.count_is in
    let after : count + length share ≡ length (joined (take (index + 1) shares)) =
    (let step : index + 1 ≡ suc index = omega arith in
    omega (arith, at.count_is, length-append (joined (take index shares)) share, ap length (ap (λ (k : ℕ). joined (take k shares)) step ∙ one_more shares index share here))) in
    record {
      share = share;
      outcome = outcome;
      here = here;
      outcome_here = outcome_here;
      size = size;
      lies = (let width : count + length share - count ≡ length share = omega arith in ap (λ (k : ℕ). take k (drop count account.report.lines)) width ∙ lies);
      fits = omega (arith, fits, size);
      front = ap (λ (ls : List ReportLine). ls ++ share) first ∙ sym both;
      next = record { count_is = after };
    }

-- the first of the events that are left is that at the index
pub next_left : (items events : List Event) (index : ℕ) (e : Event) → items ≡ events → index < length items → e ≡ get_or items index e → drop index events ≡ e ∷ drop (index + 1) events
next_left items events index e same within is =
    subst (λ (es : List Event). drop index es ≡ e ∷ drop (index + 1) es) same
    (drop-cons items index e within ∙ ap (λ (x : Event). x ∷ drop (suc index) items) (sym is) ∙ ap (λ (k : ℕ). e ∷ drop k items) next)
  where
    next : suc index ≡ index + 1
    next = omega arith

-- so much of a list, and the element behind it
pub take_next : {X : Type 0} (xs : List X) (index : ℕ) (x : X) → slice_get xs index ≡ Some x → take (index + 1) xs ≡ take index xs ++ x ∷ []
take_next {X = X} xs index x is = ap (λ (k : ℕ). take k xs) next ∙ by xs index is
  where
    next : index + 1 ≡ suc index
    next = omega arith

    by : (ys : List X) (i : ℕ) → slice_get ys i ≡ Some x → take (suc i) ys ≡ take i ys ++ x ∷ []
    by [] i here = absurd cc
    by (y ∷ ys) zero here = let same : y ≡ x = cc in ap (λ (z : X). z ∷ []) same
    by (y ∷ ys) (suc i) here = ap (λ (zs : List X). y ∷ zs) (by ys i here)
