-- Texts about nodes: two with the same bytes are one, a text has no fault, and other bytes have one.
use Rattle.std.proofs.Common.{◌≡◌, ℕ, ◌≤◌, List, [], ◌++◌, length, Option, codes, decimal, refl, ap, subst, ◌∙◌, sym, arith, ◌⊎◌, inl, inr}
use Rattle.std.specs.List.{flat_map, AllByRecursion}
use Rattle.std.proofs.lemmas.List.{append-nil, append_cancel_left, length-append}
use Rattle.std.proofs.lemmas.Option.{some_pair_parts}
use Rattle.rr_types.specs.declared.refusal.Refusal.{Refusal}
use Rattle.rr_types.specs.declared.refusal.Refusal.TheVariants.{OutOfMemory, BadNodes, BadEvent}
use Rattle.rr_text.specs.Lines.{nodes_line, HasNoLine, StopsAt, HasNoPlace, HasOtherNodes, HasNoNodes, IsStop, IsFirstFault, IsFault}
use Rattle.rr_text.specs.Reading.{cut_at}
use Rattle.rr_text.proofs.LineReading.{AreLines, lines_prefix, nothing_printed, some_more, more_some, one_stop}
use Rattle.rr_text.proofs.FirstLine.{nodes_again, nodes_one, other_again}

-- things that are read line by line, for each number of nodes
pub record AreTexts {X : Type 0} (Fits : ℕ → X → Type 0) (line : X → List ℕ) (read : ℕ → List ℕ → Option X) : Type 0 where
  pub lines : (n : ℕ) → n ≤ 7 → AreLines (Fits n) line (read n)

-- 1 to 7 nodes and at most a million things at them
pub record IsText {X : Type 0} (Fits : ℕ → X → Type 0) (nodes : ℕ) (things : List X) : Type 0 where
  pub some : 1 ≤ nodes
  pub few : nodes ≤ 7
  pub short : length things ≤ 1000000
  pub each : AllByRecursion (Fits nodes) things

-- two things with one text are one
pub text_one : {X : Type 0} {Fits : ℕ → X → Type 0} {line : X → List ℕ} {read : ℕ → List ℕ → Option X} (are : AreTexts Fits line read) (m n : ℕ) (xs ys : List X) → IsText Fits m xs → IsText Fits n ys → nodes_line m ++ flat_map line xs ≡ nodes_line n ++ flat_map line ys → (m ≡ n) × (xs ≡ ys)
text_one {Fits} {line} are m n xs ys fits_x fits_y same =
    let first = nodes_one m n (flat_map line xs) (flat_map line ys) fits_x.few fits_y.few same in
    let each = subst (λ k. AllByRecursion (Fits k) ys) (sym first.0) fits_y.each in
    let lines = are.lines m fits_x.few in
    let on = lines_prefix lines xs ys [] fits_x.each each (first.1 ∙ sym (append-nil (flat_map line ys))) in
    (first.0, on.is ∙ ap (λ zs. ys ++ zs) (nothing_printed lines on.more on.each on.printed) ∙ append-nil ys)

-- ---- a text has no fault

no_stop : {X : Type 0} {Fits : ℕ → X → Type 0} {line : X → List ℕ} {read : ℕ → List ℕ → Option X} (are : AreTexts Fits line read) (n : ℕ) (xs : List X) (number : ℕ) → IsText Fits n xs → HasNoPlace Fits line (nodes_line n ++ flat_map line xs) number → ⊥
no_stop {Fits} {line} are n xs number fits stop =
    let first = nodes_one n stop.nodes (flat_map line xs) stop.rest fits.few stop.few stop.split in
    let each = subst (λ k. AllByRecursion (Fits k) stop.stops.before) (sym first.0) stop.stops.each in
    let on = lines_prefix (are.lines n fits.few) xs stop.stops.before stop.stops.rest fits.each each (first.1 ∙ stop.stops.split) in
    elim stop.stops.fault [
      | inl full ↦ omega (arith, fits.short, full, ap length on.is, length-append stop.stops.before on.more, more_some line on.more stop.stops.rest on.printed stop.stops.some)
      | inr none ↦ some_more (Fits n) line on.more stop.stops.rest on.each on.printed stop.stops.some (subst (λ k. HasNoLine (Fits k) line stop.stops.rest) (sym first.0) none)
    ]

no_other_nodes : (n : ℕ) (rest : List ℕ) → 1 ≤ n → n ≤ 7 → HasOtherNodes (nodes_line n ++ rest) → ⊥
no_other_nodes n rest some few o =
    let parts = some_pair_parts (codes "nodes " ++ decimal n) (codes "nodes " ++ o.word) rest o.rest (sym (nodes_again n rest few) ∙ other_again (nodes_line n ++ rest) o) in
    o.other n some few (sym (append_cancel_left (codes "nodes ") (decimal n) o.word parts.0))

no_line_fault : {X : Type 0} {Fits : ℕ → X → Type 0} {line : X → List ℕ} {read : ℕ → List ℕ → Option X} (are : AreTexts Fits line read) (n : ℕ) (xs : List X) (number : ℕ) → IsText Fits n xs → ((number ≡ 1) × HasNoNodes (nodes_line n ++ flat_map line xs)) ⊎ HasNoPlace Fits line (nodes_line n ++ flat_map line xs) number → ⊥
no_line_fault {line} are n xs number fits (inl p) = p.1.none n (flat_map line xs) fits.some fits.few refl
no_line_fault are n xs number fits (inr p) = no_stop are n xs number fits p

no_fault : {X : Type 0} {Fits : ℕ → X → Type 0} {line : X → List ℕ} {read : ℕ → List ℕ → Option X} (are : AreTexts Fits line read) (n : ℕ) (xs : List X) (e : Refusal) → IsText Fits n xs → IsFault Fits line (nodes_line n ++ flat_map line xs) e → e ≡ OutOfMemory
no_fault are n xs OutOfMemory fits fault = refl
no_fault {line} are n xs BadNodes fits fault = absurd (no_other_nodes n (flat_map line xs) fits.some fits.few fault)
no_fault are n xs (BadEvent number) fits fault = absurd (no_line_fault are n xs number fits fault)
no_fault are n xs _ fits fault = absurd fault

-- what is a text is refused for memory alone
pub only_memory : {X : Type 0} {Fits : ℕ → X → Type 0} {line : X → List ℕ} {read : ℕ → List ℕ → Option X} (are : AreTexts Fits line read) (n : ℕ) (xs : List X) (bytes : List ℕ) (e : Refusal) → IsText Fits n xs → bytes ≡ nodes_line n ++ flat_map line xs → IsFault Fits line bytes e → e ≡ OutOfMemory
only_memory {Fits} {line} are n xs bytes e fits is fault = no_fault are n xs e fits (subst (λ (b : List ℕ). IsFault Fits line b e) is fault)

-- ---- other bytes have one fault

one_place : {X : Type 0} {Fits : ℕ → X → Type 0} {line : X → List ℕ} {read : ℕ → List ℕ → Option X} (are : AreTexts Fits line read) (bytes : List ℕ) (k l : ℕ) → HasNoPlace Fits line bytes k → HasNoPlace Fits line bytes l → k ≡ l
one_place {Fits} {line} are bytes k l p q =
    let first = nodes_one p.nodes q.nodes p.rest q.rest p.few q.few (sym p.split ∙ q.split) in
    let moved = subst (λ n. StopsAt (Fits n) line q.rest l) (sym first.0) q.stops in
    one_stop (are.lines p.nodes p.few) p.rest k l p.stops (subst (λ (r : List ℕ). StopsAt (Fits p.nodes) line r l) (sym first.1) moved)

one_line : {X : Type 0} {Fits : ℕ → X → Type 0} {line : X → List ℕ} {read : ℕ → List ℕ → Option X} (are : AreTexts Fits line read) (bytes : List ℕ) (k l : ℕ) → ((k ≡ 1) × HasNoNodes bytes) ⊎ HasNoPlace Fits line bytes k → ((l ≡ 1) × HasNoNodes bytes) ⊎ HasNoPlace Fits line bytes l → k ≡ l
one_line are bytes k l (inl p) (inl q) = p.0 ∙ sym q.0
one_line are bytes k l (inl p) (inr q) = absurd (p.1.none q.nodes q.rest q.some q.few q.split)
one_line are bytes k l (inr p) (inl q) = absurd (q.1.none p.nodes p.rest p.some p.few p.split)
one_line are bytes k l (inr p) (inr q) = one_place are bytes k l p q

not_both : {X : Type 0} {Fits : ℕ → X → Type 0} {line : X → List ℕ} (bytes : List ℕ) (l : ℕ) → HasOtherNodes bytes → ((l ≡ 1) × HasNoNodes bytes) ⊎ HasNoPlace Fits line bytes l → ⊥
not_both bytes l o (inl q) = q.1.other o
not_both bytes l o (inr q) =
    let parts = some_pair_parts (codes "nodes " ++ decimal q.nodes) (codes "nodes " ++ o.word) q.rest o.rest (sym (nodes_again q.nodes q.rest q.few) ∙ ap (cut_at 10) (sym q.split) ∙ other_again bytes o) in
    o.other q.nodes q.some q.few (sym (append_cancel_left (codes "nodes ") (decimal q.nodes) o.word parts.0))

-- memory aside, bytes have one fault
pub one_fault : {X : Type 0} {Fits : ℕ → X → Type 0} {line : X → List ℕ} {read : ℕ → List ℕ → Option X} (are : AreTexts Fits line read) (bytes : List ℕ) (e f : Refusal) → IsFault Fits line bytes e → IsFault Fits line bytes f → (e ≡ OutOfMemory → ⊥) → (f ≡ OutOfMemory → ⊥) → e ≡ f
one_fault are bytes OutOfMemory f p q ne nf = absurd (ne refl)
one_fault are bytes BadNodes OutOfMemory p q ne nf = absurd (nf refl)
one_fault are bytes BadNodes BadNodes p q ne nf = refl
one_fault are bytes BadNodes (BadEvent l) p q ne nf = absurd (not_both bytes l p q)
one_fault are bytes BadNodes _ p q ne nf = absurd q
one_fault are bytes (BadEvent k) OutOfMemory p q ne nf = absurd (nf refl)
one_fault are bytes (BadEvent k) BadNodes p q ne nf = absurd (not_both bytes k q p)
one_fault are bytes (BadEvent k) (BadEvent l) p q ne nf = ap (λ (n : ℕ). BadEvent n) (one_line are bytes k l p q)
one_fault are bytes (BadEvent k) _ p q ne nf = absurd q
one_fault are bytes _ f p q ne nf = absurd p

-- ---- faults of the two parts of a text are faults of the text

-- a fault of the first line
pub first_fault : {X : Type 0} (Fits : ℕ → X → Type 0) (line : X → List ℕ) (bytes : List ℕ) (e : Refusal) → IsFirstFault bytes e → IsFault Fits line bytes e
first_fault Fits line bytes BadNodes p = p
first_fault Fits line bytes (BadEvent number) p = inl p
first_fault Fits line bytes _ p = absurd p

-- a fault behind the first line
pub stop_fault : {X : Type 0} (Fits : ℕ → X → Type 0) (line : X → List ℕ) (bytes : List ℕ) (n : ℕ) (rest : List ℕ) (e : Refusal) → 1 ≤ n → n ≤ 7 → bytes ≡ nodes_line n ++ rest → IsStop (Fits n) line rest e → IsFault Fits line bytes e
stop_fault Fits line bytes n rest OutOfMemory some few split p = tt
stop_fault Fits line bytes n rest (BadEvent number) some few split p = inr (record { nodes = n; rest = rest; some = some; few = few; split = split; stops = p })
stop_fault Fits line bytes n rest _ some few split p = absurd p
