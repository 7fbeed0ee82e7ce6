-- Lines of things that are read again as they were printed: what stands before the first line without a place.
use Rattle.std.proofs.Common.{◌≡◌, ℕ, ◌+◌, ◌<◌, ◌≤◌, List, [], ◌∷◌, ◌++◌, length, Option, None, Some, refl, ap, ◌∙◌, sym, arith, ◌⊎◌, inl, inr}
use Rattle.std.specs.List.{flat_map, AllByRecursion}
use Rattle.std.proofs.lemmas.List.{append_assoc, append-nil, length-append}
use Rattle.std.proofs.lemmas.Option.{same_Some, some_pair_parts, none-some}
use Rattle.rr_text.specs.Lines.{HasNoLine, ArePrinted, StopsAt}
use Rattle.rr_text.specs.Reading.{cut_at}
use Rattle.rr_text.proofs.CutLemmas.{cut_takes}

-- things that are read line by line: what is read is printed so, and what is printed is read again
pub record AreLines {X : Type 0} (Fits : X → Type 0) (line : X → List ℕ) (read : List ℕ → Option X) : Type 0 where
  pub takes : (bytes text rest : List ℕ) (x : X) → cut_at 10 bytes ≡ Some (text, rest) → Some x ≡ read text → Fits x × (bytes ≡ line x ++ rest)
  pub again : (x : X) (more : List ℕ) → Fits x → (text : List ℕ) × (cut_at 10 (line x ++ more) ≡ Some (text, more)) × (read text ≡ Some x)

-- ---- one line

-- bytes without a line feed have no line at their front
pub line_uncut : {X : Type 0} {Fits : X → Type 0} {line : X → List ℕ} {read : List ℕ → Option X} (are : AreLines Fits line read) (bytes : List ℕ) → cut_at 10 bytes ≡ None → HasNoLine Fits line bytes
line_uncut are bytes cut x more fits is = none-some _ (sym cut ∙ ap (cut_at 10) is ∙ (are.again x more fits).1)

-- nor have bytes whose first line isn't read
pub line_unread : {X : Type 0} {Fits : X → Type 0} {line : X → List ℕ} {read : List ℕ → Option X} (are : AreLines Fits line read) (bytes text rest : List ℕ) → cut_at 10 bytes ≡ Some (text, rest) → None ≡ read text → HasNoLine Fits line bytes
line_unread {read} are bytes text rest cut unread x more fits is =
    let a = are.again x more fits in
    let same = some_pair_parts text a.0 rest more (sym cut ∙ ap (cut_at 10) is ∙ a.1) in
    none-some _ (unread ∙ ap read same.0 ∙ a.2)

-- two lines at one front are one
pub line_one : {X : Type 0} {Fits : X → Type 0} {line : X → List ℕ} {read : List ℕ → Option X} (are : AreLines Fits line read) (x y : X) (v w : List ℕ) → Fits x → Fits y → line x ++ v ≡ line y ++ w → (x ≡ y) × (v ≡ w)
line_one {read} are x y v w fits_x fits_y same =
    let a = are.again x v fits_x in
    let b = are.again y w fits_y in
    let parts = some_pair_parts a.0 b.0 v w (sym a.1 ∙ ap (cut_at 10) same ∙ b.1) in
    (same_Some x y (sym a.2 ∙ ap read parts.0 ∙ b.2), parts.1)

-- a line has bytes
pub line_some : {X : Type 0} {Fits : X → Type 0} {line : X → List ℕ} {read : List ℕ → Option X} (are : AreLines Fits line read) (x : X) (more : List ℕ) → Fits x → 0 < length (line x ++ more)
line_some {line} are x more fits =
    let a = are.again x more fits in
    omega (arith, ap length (cut_takes 10 (line x ++ more) a.0 more a.1), length-append a.0 (10 ∷ more))

-- ---- many lines

-- things that begin as others do go on from them
pub record GoesOn {X : Type 0} (Fits : X → Type 0) (line : X → List ℕ) (xs ys : List X) (rest : List ℕ) : Type 0 where
  pub more : List X
  pub is : xs ≡ ys ++ more
  pub each : AllByRecursion Fits more
  pub printed : flat_map line more ≡ rest

pub lines_prefix : {X : Type 0} {Fits : X → Type 0} {line : X → List ℕ} {read : List ℕ → Option X} (are : AreLines Fits line read) (xs ys : List X) (rest : List ℕ) → AllByRecursion Fits xs → AllByRecursion Fits ys → flat_map line xs ≡ flat_map line ys ++ rest → GoesOn Fits line xs ys rest
lines_prefix are xs [] rest p q same = record { more = xs; is = refl; each = p; printed = same }
lines_prefix {line} are [] (y ∷ ys) rest p q same =
    absurd (omega (arith, ap length same, ap length (append_assoc (line y) (flat_map line ys) rest), line_some are y (flat_map line ys ++ rest) q.0))
lines_prefix {line} are (x ∷ xs) (y ∷ ys) rest p q same =
    let one = line_one are x y (flat_map line xs) (flat_map line ys ++ rest) p.0 q.0 (same ∙ append_assoc (line y) (flat_map line ys) rest) in
    let on = lines_prefix are xs ys rest p.1 q.1 one.1 in
    record { more = on.more; is = ap (λ z. z ∷ xs) one.0 ∙ ap (λ zs. y ∷ zs) on.is; each = on.each; printed = on.printed }

pub nothing_printed : {X : Type 0} {Fits : X → Type 0} {line : X → List ℕ} {read : List ℕ → Option X} (are : AreLines Fits line read) (xs : List X) → AllByRecursion Fits xs → flat_map line xs ≡ [] → xs ≡ []
nothing_printed are [] p e = refl
nothing_printed {line} are (x ∷ xs) p e = absurd (omega (arith, ap length e, line_some are x (flat_map line xs) p.0))

-- a line of a text is never at fault
pub some_more : {X : Type 0} (Fits : X → Type 0) (line : X → List ℕ) (more : List X) (rest : List ℕ) → AllByRecursion Fits more → flat_map line more ≡ rest → 0 < length rest → HasNoLine Fits line rest → ⊥
some_more Fits line [] rest each printed some none = omega (arith, ap length printed)
some_more Fits line (x ∷ more) rest each printed some none = none x (flat_map line more) each.0 (sym printed)

pub more_some : {X : Type 0} (line : X → List ℕ) (more : List X) (rest : List ℕ) → flat_map line more ≡ rest → 0 < length rest → 0 < length more
more_some line [] rest printed some = absurd (omega (arith, ap length printed))
more_some line (x ∷ more) rest printed some = omega arith

-- a line stands at the front of the bytes
pub record HasLine {X : Type 0} (Fits : X → Type 0) (line : X → List ℕ) (bytes : List ℕ) : Type 0 where
  pub thing : X
  pub more : List ℕ
  pub fits : Fits thing
  pub split : bytes ≡ line thing ++ more

-- two ways to split bytes into lines and a rest: as many lines, or one rest begins with a line
pub fronts : {X : Type 0} {Fits : X → Type 0} {line : X → List ℕ} {read : List ℕ → Option X} (are : AreLines Fits line read) (xs ys : List X) (v w : List ℕ) → AllByRecursion Fits xs → AllByRecursion Fits ys → flat_map line xs ++ v ≡ flat_map line ys ++ w
    → (length xs ≡ length ys) ⊎ (((length xs < length ys) × HasLine Fits line v) ⊎ ((length ys < length xs) × HasLine Fits line w))
fronts are [] [] v w p q same = inl refl
fronts {line} are [] (y ∷ ys) v w p q same =
    inr (inl (omega arith, record { thing = y; more = flat_map line ys ++ w; fits = q.0; split = same ∙ append_assoc (line y) (flat_map line ys) w }))
fronts {line} are (x ∷ xs) [] v w p q same =
    inr (inr (omega arith, record { thing = x; more = flat_map line xs ++ v; fits = p.0; split = sym same ∙ append_assoc (line x) (flat_map line xs) v }))
fronts {line} are (x ∷ xs) (y ∷ ys) v w p q same =
    let one = line_one are x y (flat_map line xs ++ v) (flat_map line ys ++ w) p.0 q.0 (sym (append_assoc (line x) (flat_map line xs) v) ∙ same ∙ append_assoc (line y) (flat_map line ys) w) in
    elim (fronts are xs ys v w p.1 q.1 one.1) [
      | inl equal ↦ inl (omega (arith, equal))
      | inr (inl r) ↦ inr (inl (omega (arith, r.0), r.1))
      | inr (inr r) ↦ inr (inr (omega (arith, r.0), r.1))
    ]

-- where more lines may stand, none does
not_before : {X : Type 0} {Fits : X → Type 0} {line : X → List ℕ} (bytes : List ℕ) (number : ℕ) (p : StopsAt Fits line bytes number) → length p.before < 1000000 → HasLine Fits line p.rest → ⊥
not_before bytes number p lt h =
    elim p.fault [ inl full ↦ omega (arith, full, lt) | inr none ↦ none h.thing h.more h.fits h.split ]

-- the first line that has no place is one
pub one_stop : {X : Type 0} {Fits : X → Type 0} {line : X → List ℕ} {read : List ℕ → Option X} (are : AreLines Fits line read) (bytes : List ℕ) (k l : ℕ) → StopsAt Fits line bytes k → StopsAt Fits line bytes l → k ≡ l
one_stop are bytes k l p q =
    elim (fronts are p.before q.before p.rest q.rest p.each q.each (sym p.split ∙ q.split)) [
      | inl equal ↦ omega (arith, equal, p.counted, q.counted)
      | inr (inl r) ↦ absurd (not_before bytes k p (omega (arith, r.0, q.short)) r.1)
      | inr (inr r) ↦ absurd (not_before bytes l q (omega (arith, r.0, p.short)) r.1)
    ]

-- ---- as the loop over the lines goes

pub All-push : {X : Type 0} (P : X → Type 0) (xs : List X) (y : X) → AllByRecursion P xs → P y → AllByRecursion P (xs ++ y ∷ [])
All-push P [] y h p = (p, tt)
All-push P (x ∷ xs) y h p = (h.0, All-push P xs y h.1 p)

pub flat_map-push : {X : Type 0} (line : X → List ℕ) (xs : List X) (y : X) → flat_map line (xs ++ y ∷ []) ≡ flat_map line xs ++ line y
flat_map-push line [] y = append-nil (line y)
flat_map-push line (x ∷ xs) y = ap (λ (w : List ℕ). line x ++ w) (flat_map-push line xs y) ∙ sym (append_assoc (line x) (flat_map line xs) (line y))

-- things that were read, and what is left
pub record SoFar {X : Type 0} (Fits : X → Type 0) (line : X → List ℕ) (bytes : List ℕ) (xs : List X) (rest : List ℕ) : Type 0 where
  pub each : AllByRecursion Fits xs
  pub short : length xs ≤ 1000000
  pub split : bytes ≡ flat_map line xs ++ rest

pub so_far_none : {X : Type 0} (Fits : X → Type 0) (line : X → List ℕ) (bytes : List ℕ) → SoFar Fits line bytes [] bytes
so_far_none Fits line bytes = record { each = tt; short = omega arith; split = refl }

pub so_far_more : {X : Type 0} {Fits : X → Type 0} {line : X → List ℕ} {read : List ℕ → Option X} (are : AreLines Fits line read) (bytes rest after text : List ℕ) (xs : List X) (x : X) → SoFar Fits line bytes xs rest → (length xs ≡ 1000000 → ⊥) → cut_at 10 rest ≡ Some (text, after) → Some x ≡ read text → SoFar Fits line bytes (xs ++ x ∷ []) after
so_far_more {Fits} {line} are bytes rest after text xs x h room cut is_read =
    let t = are.takes rest text after x cut is_read in
    record {
      each = All-push Fits xs x h.each t.0;
      short = omega (arith, h.short, room, length-append xs (x ∷ []));
      split = h.split ∙ ap (λ (w : List ℕ). flat_map line xs ++ w) t.1 ∙ sym (append_assoc (flat_map line xs) (line x) after) ∙ ap (λ (w : List ℕ). w ++ after) (sym (flat_map-push line xs x));
    }

-- a line at the front of what is left was read
pub so_far_on : {X : Type 0} (Fits : X → Type 0) (line : X → List ℕ) (bytes rest after : List ℕ) (xs : List X) (x : X) → SoFar Fits line bytes xs rest → length xs < 1000000 → Fits x → rest ≡ line x ++ after → SoFar Fits line bytes (xs ++ x ∷ []) after
so_far_on Fits line bytes rest after xs x h room fits is = record {
  each = All-push Fits xs x h.each fits;
  short = omega (arith, room, length-append xs (x ∷ []));
  split = h.split ∙ ap (λ (w : List ℕ). flat_map line xs ++ w) is ∙ sym (append_assoc (flat_map line xs) (line x) after) ∙ ap (λ (w : List ℕ). w ++ after) (sym (flat_map-push line xs x));
}

pub so_far_full : {X : Type 0} (Fits : X → Type 0) (line : X → List ℕ) (bytes rest : List ℕ) (xs : List X) (number : ℕ) → SoFar Fits line bytes xs rest → 0 < length rest → number ≡ length xs + 2 → length xs ≡ 1000000 → StopsAt Fits line bytes number
so_far_full Fits line bytes rest xs number h some counted full = record { before = xs; rest = rest; each = h.each; short = h.short; split = h.split; counted = counted; some = some; fault = inl full }

-- no line may stand at the front of what is left
pub so_far_stop : {X : Type 0} (Fits : X → Type 0) (line : X → List ℕ) (bytes rest : List ℕ) (xs : List X) (number : ℕ) → SoFar Fits line bytes xs rest → number ≡ length xs + 2 → 0 < length rest → (1000002 ≤ number) ⊎ HasNoLine Fits line rest → StopsAt Fits line bytes number
so_far_stop Fits line bytes rest xs number h counted some (inl full) = so_far_full Fits line bytes rest xs number h some counted (omega (arith, full, counted, h.short))
so_far_stop Fits line bytes rest xs number h counted some (inr none) = record { before = xs; rest = rest; each = h.each; short = h.short; split = h.split; counted = counted; some = some; fault = inr none }

pub so_far_all : {X : Type 0} (Fits : X → Type 0) (line : X → List ℕ) (bytes rest : List ℕ) (xs : List X) → SoFar Fits line bytes xs rest → length rest ≡ 0 → ArePrinted Fits line xs bytes
so_far_all Fits line bytes [] xs h none = record { each = h.each; short = h.short; split = h.split ∙ append-nil (flat_map line xs) }
so_far_all Fits line bytes (b ∷ rest) xs h none = absurd (omega arith)

pub so_far_uncut : {X : Type 0} {Fits : X → Type 0} {line : X → List ℕ} {read : List ℕ → Option X} (are : AreLines Fits line read) (bytes rest : List ℕ) (xs : List X) (number : ℕ) → SoFar Fits line bytes xs rest → 0 < length rest → number ≡ length xs + 2 → cut_at 10 rest ≡ None → StopsAt Fits line bytes number
so_far_uncut are bytes rest xs number h some counted cut = record { before = xs; rest = rest; each = h.each; short = h.short; split = h.split; counted = counted; some = some; fault = inr (line_uncut are rest cut) }

pub so_far_unread : {X : Type 0} {Fits : X → Type 0} {line : X → List ℕ} {read : List ℕ → Option X} (are : AreLines Fits line read) (bytes rest text after : List ℕ) (xs : List X) (number : ℕ) → SoFar Fits line bytes xs rest → 0 < length rest → number ≡ length xs + 2 → cut_at 10 rest ≡ Some (text, after) → None ≡ read text → StopsAt Fits line bytes number
so_far_unread are bytes rest text after xs number h some counted cut unread = record { before = xs; rest = rest; each = h.each; short = h.short; split = h.split; counted = counted; some = some; fault = inr (line_unread are rest text after cut unread) }

-- a cut leaves less
pub after_shorter : (rest text after : List ℕ) → cut_at 10 rest ≡ Some (text, after) → length after < length rest
after_shorter rest text after cut = omega (arith, ap length (cut_takes 10 rest text after cut), length-append text (10 ∷ after))
