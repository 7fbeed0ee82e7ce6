-- Areas that aren't formatted, and disks of which no area is.
use Rattle.std.proofs.Common.{◌≡◌, ◌≢◌, ℕ, ◌<◌, ◌≤◌, Bool, true, false, cond, eqb, leb, ltb, ◌&&◌, List, [], ◌∷◌, length, drop, get_or, Option, None, Some, Result, Ok, Err, refl, ap, ◌∙◌, arith}
use Rattle.std.proofs.lemmas.Bool.{ne_eqb, eqb-false, le-leb}
use Rattle.rr_disk.specs.declared.area.Area.{Area}
use Rattle.rr_disk.specs.declared.area.Area.TheVariants.{First, Second}
use Rattle.rr_frame.specs.declared.version.Version.{Version}
use Rattle.rr_frame.specs.declared.version.Version.TheVariants.{One, Two}
use Rattle.rr_frame.specs.Snapshots.{Snapped}
use Rattle.rr_frame.specs.SnapshotFormat.{snapshot_in}
use Rattle.rr_journal.specs.Calls.{must_close}
use Rattle.rr_journal.specs.Image.{Content, Unformatted, Broken, Front, Blank, Faulty, Begins, is_formatted, frame_behind, of_node, front_behind, front_of, content_behind, active, found_by, found}

-- ---- areas that aren't formatted

never_blank : (n p : ℕ) (f : Option (List ℕ × List ℕ)) → front_behind n p f ≡ Blank → ⊥
never_blank n p None e = absurd cc
never_blank n p (Some x) e = by_snapshot (snapshot_in x.0) e
  where
    by_own : (t : Bool) (version : Version) (c : Content) (rest : List ℕ) → cond t (Begins version c rest) Faulty ≡ Blank → ⊥
    by_own true version c rest e = absurd cc
    by_own false version c rest e = absurd cc

    by_snapshot : (r : Result (Version × Snapped) ℕ) → elim r [ Err offset ↦ Faulty | Ok s ↦ of_node n p s.0 s.1 (length x.0) x.1 ] ≡ Blank → ⊥
    by_snapshot (Err k) e = absurd cc
    by_snapshot (Ok s) e = by_own _ _ _ _ e

blank_bytes : (n p : ℕ) (bytes : List ℕ) → front_of n p bytes ≡ Blank → is_formatted bytes ≡ false
blank_bytes n p bytes e = by_test (is_formatted bytes) refl e
  where
    by_test : (t : Bool) → is_formatted bytes ≡ t → cond t (front_behind n p (frame_behind (drop 1 bytes))) Blank ≡ Blank → is_formatted bytes ≡ false
    by_test false is e = is
    by_test true is e = absurd (never_blank n p (frame_behind (drop 1 bytes)) e)

-- a closed gate at the front
pub closed_blank : (n p : ℕ) (bytes : List ℕ) → get_or bytes 0 0 ≢ 165 → front_of n p bytes ≡ Blank
closed_blank n p [] shut = refl
closed_blank n p (g ∷ bytes) shut = let is : eqb g 165 ≡ false = ne_eqb g 165 shut in rw is refl

-- a gate alone
pub short_blank : (n p : ℕ) (bytes : List ℕ) → length bytes ≤ 1 → front_of n p bytes ≡ Blank
short_blank n p [] short = refl
short_blank n p (g ∷ []) short = by_gate (eqb g 165) refl
  where
    by_gate : (t : Bool) → eqb g 165 ≡ t → front_of n p (g ∷ []) ≡ Blank
    by_gate true is = rw is refl
    by_gate false is = rw is refl
short_blank n p (g ∷ x ∷ bytes) short = absurd (omega arith)

-- an area that has to be closed first is empty or a gate alone
pub close_short : (n p : ℕ) (bytes : List ℕ) → front_of n p bytes ≡ Blank → must_close bytes ≡ true → length bytes ≤ 1
close_short n p [] blank due = omega arith
close_short n p (g ∷ []) blank due = omega arith
close_short n p (g ∷ x ∷ bytes) blank due =
    let not = blank_bytes n p (g ∷ x ∷ bytes) blank in
    let open_gate : eqb g 165 ≡ true = due in
    let long : leb 1 (length (x ∷ bytes)) ≡ true = le-leb 1 (length (x ∷ bytes)) (omega arith) in
    absurd (both_false open_gate long not)
  where
    both_false : {a b : Bool} → a ≡ true → b ≡ true → (a && b) ≡ false → ⊥
    both_false {a = true} {b = true} p q e = absurd cc
    both_false {a = true} {b = false} p q e = absurd cc
    both_false {a = false} {b = b} p q e = absurd cc

pub open_at_front : (bytes : List ℕ) → must_close bytes ≡ false → (0 < length bytes) × (get_or bytes 0 0 ≢ 165)
open_at_front [] due = absurd cc
open_at_front (g ∷ bytes) due = (omega arith, eqb-false g 165 due)

-- ---- disks of which no area is formatted

not_active : (version : Version) (area : Area) (r : Result Content ℕ) → active version area r ≡ Unformatted → ⊥
not_active One area (Ok c) e = absurd cc
not_active Two area (Ok c) e = absurd cc
not_active One area (Err k) e = absurd cc
not_active Two area (Err k) e = absurd cc

pub blanks : (n p : ℕ) (first second : List ℕ) → found n p first second ≡ Unformatted → (front_of n p first ≡ Blank) × (front_of n p second ≡ Blank)
unfolding found
blanks n p first second e = by_fronts (front_of n p first) (front_of n p second) e
  where
    by_epoch : (same older : Bool) (v w : Version) (one two : Result Content ℕ) → cond same (Broken Second 0) (cond older (active v First one) (active w Second two)) ≡ Unformatted → ⊥
    by_epoch true older v w one two e = absurd cc
    by_epoch false true v w one two e = not_active v First one e
    by_epoch false false v w one two e = not_active w Second two e

    by_fronts : (one two : Front) → found_by n p one two ≡ Unformatted → (one ≡ Blank) × (two ≡ Blank)
    by_fronts Faulty two e = absurd cc
    by_fronts Blank Faulty e = absurd cc
    by_fronts Blank Blank e = (refl, refl)
    by_fronts Blank (Begins v c rest) e = absurd (not_active v Second _ e)
    by_fronts (Begins v c rest) Faulty e = absurd cc
    by_fronts (Begins v c rest) Blank e = absurd (not_active v First _ e)
    by_fronts (Begins v c rest) (Begins w d rest_2) e = absurd (by_epoch (eqb c.epoch d.epoch) (ltb d.epoch c.epoch) v w (content_behind v n p c rest) (content_behind w n p d rest_2) e)

pub both_blank : (n p : ℕ) (first second : List ℕ) → front_of n p first ≡ Blank → front_of n p second ≡ Blank → found n p first second ≡ Unformatted
unfolding found
both_blank n p first second one two = ap (λ (f : Front). found_by n p f (front_of n p second)) one ∙ ap (λ (f : Front). found_by n p Blank f) two
