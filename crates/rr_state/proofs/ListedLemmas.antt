-- The table of instances: a promise restored, and the places of its marks.
use Rattle.std.proofs.Common.{◌≡◌, ℕ, Bool, true, false, ◌==◌, ◌||◌, List, [], ◌∷◌, map, length, IsTrue, refl, ap, sym, ◌∙◌, arith, subst, eqb-true}
use Rattle.std.specs.List.{list_any, All}
use Rattle.std.proofs.lemmas.List.Elements.{All-head, All-tail}
use Rattle.std.proofs.lemmas.Option.{none-some}
use Rattle.rr_types.specs.declared.promise.Entry.{Entry}
use Rattle.rr_types.specs.declared.fact.Fact.{Fact}
use Rattle.rr_types.specs.Promises.{take_on_all, decided_from}
use Rattle.rr_model.specs.NodeState.{Row, row_of}
use Rattle.rr_state.specs.declared.marks.Marks.{Marks}
use Rattle.rr_state.specs.Listed.{Listed, put_rows, KeepsDecisions, HaveRows}
use Rattle.rr_state.specs.Rowed.{AscendFrom, AreInstances}
use Rattle.rr_state.specs.Marked.{has_mark_place, marked_in, tree_in, AreMarks, HaveMoved, IsCounted, HaveMarkPlaces}
use Rattle.rr_state.specs.Opened.{open_in, ArePlaced, IsListed}
use Rattle.rr_state.proofs.NotedLemmas.{row_stays}
use Rattle.rr_state.proofs.PrefixLemmas.{marked_same, have_moved}

by_bool : {Z : Type 0} (b : Bool) → (b ≡ true → Z) → (b ≡ false → Z) → Z
by_bool true f g = f refl
by_bool false f g = g refl

place_of : (marks : Marks) (changes : List Row) (i : ℕ) → All (λ r. IsTrue (has_mark_place marks r.instance)) changes → list_any (λ j. j == i) (map (λ (r : Row). r.instance) changes) ≡ true → has_mark_place marks i ≡ true
place_of marks [] i a h = cc
place_of marks (c ∷ cs) i a h =
    at (All-head (λ (r : Row). IsTrue (has_mark_place marks r.instance)) c cs a) (place_of marks cs i (All-tail (λ (r : Row). IsTrue (has_mark_place marks r.instance)) c cs a)) (c.instance == i) refl h
  where
    at : has_mark_place marks c.instance ≡ true → (list_any (λ j. j == i) (map (λ (r : Row). r.instance) cs) ≡ true → has_mark_place marks i ≡ true) → (b : Bool) → (c.instance == i) ≡ b → (b || list_any (λ j. j == i) (map (λ (r : Row). r.instance) cs)) ≡ true → has_mark_place marks i ≡ true
    at p more true e t = subst (λ z. has_mark_place marks z ≡ true) (eqb-true c.instance i e) p
    at p more false e t = more t

-- the places of more rows
pub placed_over : (rows changes : List Row) (before after : Marks) → ArePlaced rows before → ((i : ℕ) → IsTrue (has_mark_place before i) → IsTrue (has_mark_place after i)) → All (λ r. IsTrue (has_mark_place after r.instance)) changes → ArePlaced (put_rows rows changes) after
placed_over rows changes before after h stay a i f =
    by_bool (list_any (λ j. j == i) (map (λ (r : Row). r.instance) changes))
    (λ t. let x = place_of after changes i a t in absurd (let y : true ≡ false = sym x ∙ f in cc))
    (λ t. row_stays rows changes i t ∙ h i (by_bool (has_mark_place before i) (λ p. let x = stay i p in absurd (let y : true ≡ false = sym x ∙ f in cc)) (λ p. p)))

-- the places of rows that come to none
pub placed_all : (changes : List Row) (marks : Marks) → All (λ r. IsTrue (has_mark_place marks r.instance)) changes → ArePlaced (put_rows [] changes) marks
placed_all changes marks made = placed_over [] changes marks marks (λ i f. refl) (λ i p. p) made

-- with no rows nothing was decided
pub nothing_kept : (rows : List Row) → KeepsDecisions [] rows
nothing_kept rows i v d = absurd (none-some v d)

-- the table after rows were put
pub listed_absorbed : (rows after : List Row) (changes : List Row) (window shown : List ℕ) (before marks : Marks) → IsListed rows window before → after ≡ put_rows rows changes → KeepsDecisions rows after → AscendFrom 0 after → AreInstances after → shown ≡ open_in after → (AreMarks before → AreMarks marks) → tree_in marks ≡ tree_in before → marks.moved ≡ before.moved → marks.prefix ≡ before.prefix → ((i : ℕ) → IsTrue (has_mark_place before i) → IsTrue (has_mark_place marks i)) → All (λ r. IsTrue (has_mark_place marks r.instance)) changes → IsListed after shown marks
listed_absorbed rows after changes window shown before marks h put keeps ascend instances opened order tree moved prefix stay made =
    let same : marked_in after marks ≡ marked_in rows before = marked_same rows after before marks h.moved keeps moved tree in
    record {
      shown = opened;
      ascend = ascend;
      instances = instances;
      in_order = order h.in_order;
      moved = have_moved rows after before marks h.moved keeps moved;
      counted = (let c = h.counted.count in let s = h.counted.small in record { count = prefix ∙ c ∙ ap (λ es. length (decided_from 0 es)) (sym same); small = omega (arith, prefix) });
      placed = λ i f. ap (λ rs. row_of rs i) put ∙ placed_over rows changes before marks h.placed stay made i f;
    }

-- the table after facts were marked
pub listed_marked : (rows : List Row) (window : List ℕ) (before after : Marks) → IsListed rows window before → AreMarks after → HaveMoved rows after → IsCounted rows after → ((i : ℕ) → has_mark_place after i ≡ has_mark_place before i) → IsListed rows window after
listed_marked rows window before after h marks moved counted places = record {
  shown = h.shown;
  ascend = h.ascend;
  instances = h.instances;
  in_order = marks;
  moved = moved;
  counted = counted;
  placed = λ i f. h.placed i (sym (places i) ∙ f);
}

pub places_for : (rows : List Row) (marks : Marks) (facts : List Fact) → ArePlaced rows marks → HaveRows (take_on_all (marked_in rows marks) facts) rows → HaveMarkPlaces marks (take_on_all (marked_in rows marks) facts)
places_for rows marks facts h k i f = k i (h i f)

abbrev pub listed : List Row → List Entry → Listed
listed rows marked = record { rows = rows; marked = marked }

pub listed_is : (rows after : List Row) (marked more : List Entry) → rows ≡ after → marked ≡ more → listed rows marked ≡ listed after more
listed_is rows after marked more h k = ap (λ r. listed r marked) h ∙ ap (λ m. listed after m) k
