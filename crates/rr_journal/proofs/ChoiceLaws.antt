-- The area that is chosen by the first frames is the one that both stand for.
use Rattle.std.proofs.Common.{◌≡◌, ℕ, suc, ◌+◌, ◌≤◌, Bool, true, false, cond, eqb, leb, ltb, ◌&&◌, List, [], ◌∷◌, length, drop, get_or, Option, None, Some, Result, Ok, Err, refl, sym, ap, ◌∙◌, arith}
use Rattle.std.proofs.lemmas.Bool.{and_from, le-leb, eq-eqb}
use Rattle.rr_frame.specs.declared.heading.Heading.{Heading}
use Rattle.rr_frame.specs.declared.version.Version.{Version}
use Rattle.rr_frame.specs.Snapshots.{Snapped}
use Rattle.rr_frame.specs.SnapshotFormat.{snapshot_in}
use Rattle.rr_frame.specs.Headings.{heading_of, heading_in}
use Rattle.rr_disk.specs.declared.area.Area.TheVariants.{First, Second}
use Rattle.rr_journal.specs.declared.image.Beginning.{Beginning}
use Rattle.rr_journal.specs.declared.image.Beginning.TheVariants as told
use Rattle.rr_journal.specs.declared.image.Choice.{Choice}
use Rattle.rr_journal.specs.declared.image.Choice.TheVariants as chosen
use Rattle.rr_journal.specs.Image.{Front, Blank, Faulty, Begins, Found, Broken, is_formatted, of_node, frame_behind, front_behind, front_of, found_by, found}
use Rattle.rr_journal.specs.Choices.{beginning_of, beginning_with, choice_by, found_alone, found_chosen}

both_begin : (n p : ℕ) (one two : Front) (same less : Bool)
    → cond same (Broken Second 0) (cond less (found_alone n p First one) (found_alone n p Second two))
    ≡ found_chosen n p one two (cond same (chosen.Broken Second) (cond less (chosen.Active First) (chosen.Active Second)))
both_begin n p one two true less = refl
both_begin n p one two false true = refl
both_begin n p one two false false = refl

chosen_by : (n p : ℕ) (one two : Front) → found_by n p one two ≡ found_chosen n p one two (choice_by (beginning_of one) (beginning_of two))
chosen_by n p Faulty two = refl
chosen_by n p Blank Faulty = refl
chosen_by n p Blank Blank = refl
chosen_by n p Blank (Begins w d rest) = refl
chosen_by n p (Begins v c rest) Faulty = refl
chosen_by n p (Begins v c rest) Blank = refl
chosen_by n p (Begins v c rest) (Begins w d rest_2) = both_begin n p (Begins v c rest) (Begins w d rest_2) (eqb c.epoch d.epoch) (ltb d.epoch c.epoch)

pub chosen_is : (n p : ℕ) (first second : List ℕ) (one two : Beginning) (choice : Choice) → one ≡ beginning_of (front_of n p first) → two ≡ beginning_of (front_of n p second) → choice ≡ choice_by one two
    → found n p first second ≡ found_chosen n p (front_of n p first) (front_of n p second) choice
unfolding found
chosen_is n p first second one two choice is_one is_two is =
    chosen_by n p (front_of n p first) (front_of n p second)
    ∙ ap (found_chosen n p (front_of n p first) (front_of n p second)) (sym (is ∙ ap (λ (b : Beginning). choice_by b two) is_one ∙ ap (choice_by (beginning_of (front_of n p first))) is_two))

abbrev front_read : ℕ → ℕ → ℕ → List ℕ → Result (Version × Snapped) ℕ → Front
front_read n p size rest read = elim read [ Err offset ↦ Faulty | Ok x ↦ of_node n p x.0 x.1 size rest ]

own : (t : Bool) (version : Version) (s : Snapped) (size : ℕ) (rest : List ℕ)
    → beginning_of (cond t (Begins version (record { epoch = s.epoch; promise = s.entries; next = s.next; gate = 5 + size }) rest) Faulty) ≡ cond t (told.Epoch s.epoch) told.Faulty
own true version s size rest = refl
own false version s size rest = refl

read_so : (n p size : ℕ) (rest : List ℕ) (read : Result (Version × Snapped) ℕ)
    → beginning_of (front_read n p size rest read) ≡ beginning_with n p (elim read [ Err offset ↦ None | Ok x ↦ Some (heading_of x) ])
read_so n p size rest (Err offset) = refl
read_so n p size rest (Ok (version, s)) = own (eqb s.node p && eqb s.nodes n) version s size rest

-- what is told of a whole first frame
pub beginning_read : (n p : ℕ) (bytes payload rest : List ℕ) (h : Option Heading) → 2 ≤ length bytes → get_or bytes 0 0 ≡ 165 → frame_behind (drop 1 bytes) ≡ Some (payload, rest)
    → h ≡ heading_in payload → beginning_with n p h ≡ beginning_of (front_of n p bytes)
beginning_read n p [] payload rest h two gate frame is = absurd (omega arith)
beginning_read n p (g ∷ tail) payload rest h two gate frame is =
    let formatted : (eqb g 165 && leb 1 (length tail)) ≡ true = and_from _ _ (eq-eqb g 165 gate) (le-leb 1 (length tail) (omega arith)) in
    let front : front_of n p (g ∷ tail) ≡ front_read n p (length payload) rest (snapshot_in payload) =
    ap (λ (t : Bool). cond t (front_behind n p (frame_behind tail)) Blank) formatted ∙ ap (front_behind n p) frame in
    ap (beginning_with n p) is ∙ sym (read_so n p (length payload) rest (snapshot_in payload)) ∙ ap beginning_of (sym front)

-- an area that isn't formatted has no first frame
blank : (n p : ℕ) (bytes : List ℕ) → is_formatted bytes ≡ false → front_of n p bytes ≡ Blank
blank n p bytes off = ap (λ (t : Bool). cond t (front_behind n p (frame_behind (drop 1 bytes))) Blank) off

first_by : (n p : ℕ) (one : Front) → found_by n p one Blank ≡ found_alone n p First one
first_by n p Faulty = refl
first_by n p Blank = refl
first_by n p (Begins v c rest) = refl

second_by : (n p : ℕ) (two : Front) → found_by n p Blank two ≡ found_alone n p Second two
second_by n p Faulty = refl
second_by n p Blank = refl
second_by n p (Begins v c rest) = refl

-- where the second area isn't formatted, the first one alone counts
pub first_alone : (n p : ℕ) (first second : List ℕ) → is_formatted second ≡ false
    → found n p first second ≡ found_chosen n p (front_of n p first) (front_of n p second) (chosen.Active First)
unfolding found
first_alone n p first second off = ap (found_by n p (front_of n p first)) (blank n p second off) ∙ first_by n p (front_of n p first)

-- where the first area isn't formatted, the second one alone counts
pub second_alone : (n p : ℕ) (first second : List ℕ) → is_formatted first ≡ false
    → found n p first second ≡ found_chosen n p (front_of n p first) (front_of n p second) (chosen.Active Second)
unfolding found
second_alone n p first second off = ap (λ (one : Front). found_by n p one (front_of n p second)) (blank n p first off) ∙ second_by n p (front_of n p second)
