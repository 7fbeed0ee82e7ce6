-- A switch rests on what the table of a flush asks for, and ends in the same facts in the other area.
use Rattle.std.proofs.Common.{◌≡◌, ◌≢◌, ⊎_elim, ℕ, ◌+◌, ◌^◌, ◌<◌, true, List, [], ◌∷◌, ◌++◌, length, get_or, take, drop, Ok, refl, sym, ap, subst, ◌∙◌, arith}
use Rattle.std.proofs.lemmas.Bool.{cases_eq, eqb-true}
use Rattle.std.proofs.lemmas.List.{append-nil, take-append-drop, length-map}
use Rattle.rr_types.specs.declared.fact.Fact.{Fact}
use Rattle.rr_types.specs.Promises.{promise_of}
use Rattle.rr_disk.specs.declared.area.Area.{Area}
use Rattle.rr_disk.specs.declared.area.Area.TheVariants.{First, Second}
use Rattle.rr_disk.specs.Areas.{Extent, Torn, replaced, at_rest, firm_cell}
use Rattle.rr_disk.specs.Crash.{Images, restarted}
use Rattle.rr_disk.proofs.Agreeing.{agrees_length, torn_back}
use Rattle.rr_frame.specs.declared.version.Version.TheVariants.{Two}
use Rattle.rr_frame.specs.Numbers.{number_bytes}
use Rattle.rr_frame.specs.Snapshots.{Snapped}
use Rattle.rr_frame.specs.SnapshotFormat.{snapshot_bytes, IsLawfulSnapshot}
use Rattle.rr_journal.specs.Flushes.{Flush}
use Rattle.rr_journal.specs.Moments.{image_of, with_image, EachHolds, IsGrounded}
use Rattle.rr_journal.proofs.FlushStates.{one_area}
use Rattle.rr_journal.specs.Calls.{frame_bytes, must_close}
use Rattle.rr_journal.specs.Image.{Content, Found, Active, Blank, Begins, front_of, content_behind, found}
use Rattle.rr_journal.specs.Held.{StandsFor, Holds}
use Rattle.rr_journal.specs.OtherAreas.{other_area}
use Rattle.rr_journal.proofs.FlushLaws.{frame_split}
use Rattle.rr_journal.proofs.FormatLaws.{closed_blank, short_blank}
use Rattle.rr_journal.proofs.FrameLaws.{begun}
use Rattle.rr_journal.proofs.ReadingLaws.{at_closed}
use Rattle.rr_journal.proofs.BesideLaws.{blank_beside, newer_beside}

-- the content that a snapshot begins
abbrev pub content_of : Snapped → Content
content_of s = record { epoch = s.epoch; promise = s.entries; next = s.next; gate = 5 + length (snapshot_bytes s) }

-- an area that begins with a snapshot's frame, and a closed gate behind it
pub record IsSnapped (s : Snapped) (image : List ℕ) : Type 0 where
  pub rest : List ℕ
  pub front : front_of s.nodes s.node image ≡ Begins Two (content_of s) rest
  pub content : content_behind Two s.nodes s.node (content_of s) rest ≡ Ok (content_of s)

pub snapped : (s : Snapped) (image : List ℕ) → IsLawfulSnapshot s → length (snapshot_bytes s) < 2 ^ 32 → take (1 + length (frame_bytes (snapshot_bytes s))) image ≡ 165 ∷ frame_bytes (snapshot_bytes s) → IsSnapped s image
unfolding content_behind
snapped s image lawful short e =
    let junk : List ℕ = drop (1 + length (frame_bytes (snapshot_bytes s))) image in
    let whole : image ≡ 165 ∷ (number_bytes 4 (length (snapshot_bytes s)) ++ (snapshot_bytes s ++ (0 ∷ junk))) =
    sym (take-append-drop (1 + length (frame_bytes (snapshot_bytes s))) image)
    ∙ ap (λ (b : List ℕ). b ++ junk) e
    ∙ ap (λ (b : List ℕ). 165 ∷ b) (frame_split (snapshot_bytes s) junk) in
    record {
      rest = 0 ∷ junk;
      front = ap (front_of s.nodes s.node) whole ∙ begun s 0 junk lawful short;
      content = at_closed Two (length (0 ∷ junk)) s.nodes s.node (content_of s) (0 ∷ junk) (λ z. absurd (omega (arith, z)));
    }

-- the snapshot of an active content's promise with the next epoch
abbrev pub snap_of : ℕ → ℕ → Content → List Fact → Snapped
snap_of n p d facts = record { node = p; nodes = n; epoch = d.epoch + 1; next = d.next; entries = promise_of facts }

-- what writes it: a flush of no facts behind the first gate of the other area
abbrev pub made : ℕ → ℕ → ℕ → Area → Content → List Fact → Flush
made n p k area d facts = record { nodes = n; node = p; area = other_area area; gate = 0; body = frame_bytes (snapshot_bytes (snap_of n p d facts)); group = record { serial = k; facts = [] } }

module _ (n p k : ℕ) (start : Images) (facts : List Fact) (area : Area) (d : Content) (holds : Holds n p start facts) (is : found n p start.of_first start.of_second ≡ Active area d) where
  -- as long as the other area isn't formatted, the facts are held
  pub held_beside : (image : List ℕ) → front_of n p image ≡ Blank → Holds n p (with_image start (other_area area) image) facts
  held_beside image blank = record { fit = holds.fit; stands = subst (λ (f : Found). StandsFor f facts) (is ∙ sym (blank_beside Two n p start area d image is blank)) holds.stands }

  as_before : (image : List ℕ) → image ≡ image_of start (other_area area) → Holds n p (with_image start (other_area area) image) facts
  as_before image same = subst (λ (b : List ℕ). Holds n p (with_image start (other_area area) b) facts) (sym same) (own area)
    where
      own : (x : Area) → Holds n p (with_image start (other_area x) (image_of start (other_area x))) facts
      own First = holds
      own Second = holds

  -- however the closing of its first gate ended
  pub closing_images : must_close (image_of start (other_area area)) ≡ true → (extent : Extent) → Torn 0 1 (at_rest (image_of start (other_area area))) extent
      → EachHolds (Holds n p) (replaced (restarted start) (other_area area) extent) facts
  closing_images due extent torn images left =
      let one = one_area start (other_area area) extent images left in
      let image = image_of images (other_area area) in
      subst (λ (x : Images). Holds n p x facts) (sym one.0)
      (⊎_elim (λ (gate : get_or image 0 0 ≡ 165). by gate (image_of start (other_area area)) refl due) (λ (shut : get_or image 0 0 ≢ 165). held_beside image (closed_blank n p image shut)) (cases_eq (get_or image 0 0) 165))
    where
      by : get_or (image_of images (other_area area)) 0 0 ≡ 165 → (bytes : List ℕ) → image_of start (other_area area) ≡ bytes → must_close bytes ≡ true
          → Holds n p (with_image start (other_area area) (image_of images (other_area area))) facts
      by gate [] was due =
          let one = one_area start (other_area area) extent images left in
          let image = image_of images (other_area area) in
          held_beside image
          (short_blank n p image (omega (arith, agrees_length extent.cells image one.1.agrees, torn.no_longer, length-map (image_of start (other_area area)) firm_cell, ap (λ (b : List ℕ). length b) was)))
      by gate (g ∷ bytes) was due =
          let one = one_area start (other_area area) extent images left in
          let image = image_of images (other_area area) in
          let back = torn_back 0 1 (image_of start (other_area area)) image extent torn one.1 (omega (arith, ap (λ (b : List ℕ). length b) was)) in
          as_before image (again image gate (omega (arith, back.0, ap (λ (b : List ℕ). length b) was)) (back.1 ∙ ap (drop 1) was) (eqb-true g 165 due) ∙ sym was)
        where
          again : (image : List ℕ) → get_or image 0 0 ≡ 165 → 0 < length image → drop 1 image ≡ bytes → g ≡ 165 → image ≡ g ∷ bytes
          again [] gate some behind open_gate = absurd (omega arith)
          again (x ∷ image) gate some behind open_gate = let head : x ≡ g = gate ∙ sym open_gate in rw (head, behind) refl

  module _ (spelt : IsLawfulSnapshot (snap_of n p d facts)) (short : length (snapshot_bytes (snap_of n p d facts)) < 2 ^ 32) where
    -- once its gate is open the other area is active
    pub found_snapped : (image : List ℕ) → take (1 + length (made n p k area d facts).body) image ≡ 165 ∷ (made n p k area d facts).body
        → found n p (with_image start (other_area area) image).of_first (with_image start (other_area area) image).of_second ≡ Active (other_area area) (content_of (snap_of n p d facts))
    found_snapped image e =
        let own = snapped (snap_of n p d facts) image spelt short e in
        newer_beside Two n p start area d (content_of (snap_of n p d facts)) image own.rest is own.front refl own.content

    -- and holds the same facts
    pub held_snapped : (image : List ℕ) → take (1 + length (made n p k area d facts).body) image ≡ 165 ∷ (made n p k area d facts).body → Holds n p (with_image start (other_area area) image) facts
    held_snapped image e =
        let was : StandsFor (Active area d) facts = subst (λ (f : Found). StandsFor f facts) is holds.stands in
        let now : StandsFor (Active (other_area area) (content_of (snap_of n p d facts))) facts = (refl, was.1) in
        record { fit = holds.fit; stands = subst (λ (f : Found). StandsFor f facts) (sym (found_snapped image e)) now }

    pub grounded : 0 < length (image_of start (other_area area)) → get_or (image_of start (other_area area)) 0 0 ≢ 165 → IsGrounded (Holds n p) (made n p k area d facts) start facts
    grounded there shut = record {
      there = there;
      closed = shut;
      before = λ image bytes long same closed. held_beside image (closed_blank n p image closed);
      after = λ image bytes e. subst (λ (fs : List Fact). Holds n p (with_image start (other_area area) image) fs) (sym (append-nil facts)) (held_snapped image e);
    }
