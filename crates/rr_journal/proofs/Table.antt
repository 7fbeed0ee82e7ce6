-- What a crash may leave in each state of a flush.
use Rattle.std.proofs.Common.{◌≡◌, ◌≢◌, ◌⊎◌, inl, inr, ⊎_elim, ℕ, ◌+◌, ◌<◌, ◌≤◌, List, [], ◌∷◌, ◌++◌, length, get_or, take, drop, All, sym, ◌∙◌, ap, subst, arith}
use Rattle.std.proofs.lemmas.Bool.{cases_eq}
use Rattle.std.proofs.lemmas.List.{append_assoc, take_at, length-take-le, length-append, length-map}
use Rattle.rr_types.specs.declared.fact.Fact.{Fact}
use Rattle.rr_disk.specs.Areas.{Extent, Areas, Torn, extent_of, replaced, written, synced, at_rest, firm_cell}
use Rattle.rr_disk.specs.Crash.{Images, IsCrashImage, restarted}
use Rattle.rr_disk.proofs.Agreeing.{agrees_bytes, at_rest_image, torn_front, torn_back}
use Rattle.rr_disk.proofs.Torn.{torn_written}
use Rattle.rr_journal.specs.Flushes.{Flush}
use Rattle.rr_journal.specs.Moments.{image_of, with_image, body_written, gate_opened, body_due, body_out, with_body, body_safe, gate_set, with_group, group_safe, IsGrounded, IsAt, EachHolds, EachHoldsEither}
use Rattle.rr_journal.proofs.FlushStates.{extent_restarted, restarted_as, image_of_with, with_with, one_area, synced_written, body_front, body_back, body_there, front_less, gate_front}

module _ (holds : Images → List Fact → Type 0) (flush : Flush) (start : Images) (facts : List Fact) (grounded : IsGrounded holds flush start facts) where
  -- an image whose front and gate are as they were at the start
  pub closed_holds : (images : Images) → images ≡ with_image start flush.area (image_of images flush.area) → All (λ b. b < 256) (image_of images flush.area) → flush.gate < length (image_of images flush.area)
      → take (flush.gate + 1) (image_of images flush.area) ≡ take (flush.gate + 1) (image_of start flush.area) → holds images facts
  closed_holds images same bytes there front =
      let image = image_of images flush.area in
      let less = front_less flush.gate image (image_of start flush.area) front in
      subst (λ (x : Images). holds x facts) (sym same) (grounded.before image bytes there less.0 (λ is. grounded.closed (sym less.1 ∙ is)))

  -- an image of which all but the gate is as it is once the body is safe
  pub gate_holds : (images : Images) → images ≡ with_image start flush.area (image_of images flush.area) → All (λ b. b < 256) (image_of images flush.area) → flush.gate < length (image_of images flush.area)
      → take flush.gate (image_of images flush.area) ≡ take flush.gate (image_of start flush.area)
      → drop (flush.gate + 1) (image_of images flush.area) ≡ flush.body ++ drop (flush.gate + 1 + length flush.body) (image_of start flush.area)
      → holds images facts ⊎ ((get_or (image_of images flush.area) flush.gate 0 ≡ 165) × holds images (facts ++ flush.group.facts))
  gate_holds images same bytes there front behind =
      let image = image_of images flush.area in
      let rest = drop (flush.gate + 1 + length flush.body) (image_of start flush.area) in
      let long : length (take flush.gate (image_of start flush.area)) ≡ flush.gate = length-take-le flush.gate (image_of start flush.area) (omega (arith, grounded.there)) in
      let whole = gate_front flush.gate image (take flush.gate (image_of start flush.area)) flush.body rest there long front behind in
      ⊎_elim
      (λ (is : get_or image flush.gate 0 ≡ 165). inr (
        is,
        subst (λ (x : Images). holds x (facts ++ flush.group.facts)) (sym same)
            (grounded.after image bytes (whole ∙ ap (λ b. take flush.gate (image_of start flush.area) ++ b ∷ flush.body) is)),
      ))
      (λ (shut : get_or image flush.gate 0 ≢ 165). inl (subst (λ (x : Images). holds x facts) (sym same) (grounded.before image bytes there front shut)))
      (cases_eq (get_or image flush.gate 0) 165)

  -- before the body is written
  due_images : (images : Images) → IsCrashImage (restarted start) images → holds images facts
  due_images images is =
      let one = one_area start flush.area (at_rest (image_of start flush.area)) images (subst (λ (b : Areas). IsCrashImage b images) (restarted_as start flush.area) is) in
      let image : image_of images flush.area ≡ image_of start flush.area = at_rest_image (image_of start flush.area) (image_of images flush.area) one.1 in
      closed_holds images one.0 (agrees_bytes _ (image_of images flush.area) one.1.agrees) (omega (arith, grounded.there, ap length image)) (ap (take (flush.gate + 1)) image)

  -- after a write behind the gate
  torn_images : (n : ℕ) (extent : Extent) → Torn (flush.gate + 1) n (at_rest (image_of start flush.area)) extent → (images : Images) → IsCrashImage (replaced (restarted start) flush.area extent) images → holds images facts
  torn_images n extent torn images is =
      let one = one_area start flush.area extent images is in
      closed_holds images one.0 (agrees_bytes extent.cells (image_of images flush.area) one.1.agrees) (omega (arith, grounded.there, one.1.no_shorter, torn.safe_length))
      (torn_front (flush.gate + 1) n (image_of start flush.area) (image_of images flush.area) extent torn one.1 (omega (arith, grounded.there)))

  -- after a write of the gate
  torn_gate_images : (extent : Extent) → Torn flush.gate 1 (at_rest (body_written flush (image_of start flush.area))) extent → (images : Images) → IsCrashImage (replaced (body_safe flush start) flush.area extent) images
      → holds images facts ⊎ holds images (facts ++ flush.group.facts)
  torn_gate_images extent torn images is =
      let bodied = body_written flush (image_of start flush.area) in
      let one = one_area (with_body flush start) flush.area extent images is in
      let image = image_of images flush.area in
      let there = body_there flush (image_of start flush.area) grounded.there in
      let front = torn_front flush.gate 1 bodied image extent torn one.1 (omega (arith, there)) in
      let back = torn_back flush.gate 1 bodied image extent torn one.1 (omega (arith, there)) in
      let less = front_less flush.gate bodied (image_of start flush.area) (body_front flush (image_of start flush.area) grounded.there) in
      ⊎_elim (λ old. inl old) (λ new. inr new.1)
      (gate_holds images (one.0 ∙ with_with start flush.area bodied image) (agrees_bytes extent.cells image one.1.agrees) (omega (arith, there, back.0)) (front ∙ less.0) (back.1 ∙ body_back flush (image_of start flush.area) grounded.there))

  -- once the body is safe
  safe_images : (images : Images) → IsCrashImage (body_safe flush start) images → holds images facts
  safe_images images is =
      let bodied = body_written flush (image_of start flush.area) in
      let mid = with_body flush start in
      let one = one_area mid flush.area (at_rest (image_of mid flush.area)) images (subst (λ (b : Areas). IsCrashImage b images) (restarted_as mid flush.area) is) in
      let image : image_of images flush.area ≡ bodied = at_rest_image (image_of mid flush.area) (image_of images flush.area) one.1 ∙ image_of_with start flush.area bodied in
      let there = body_there flush (image_of start flush.area) grounded.there in
      closed_holds images (one.0 ∙ with_with start flush.area bodied (image_of images flush.area)) (agrees_bytes _ (image_of images flush.area) one.1.agrees) (omega (arith, there, ap length image))
      (ap (take (flush.gate + 1)) image ∙ body_front flush (image_of start flush.area) grounded.there)

  -- once the open gate is safe
  group_images : (images : Images) → IsCrashImage (group_safe flush start) images → holds images (facts ++ flush.group.facts)
  group_images images is =
      let bodied = body_written flush (image_of start flush.area) in
      let end = with_group flush start in
      let one = one_area end flush.area (at_rest (image_of end flush.area)) images (subst (λ (b : Areas). IsCrashImage b images) (restarted_as end flush.area) is) in
      let image : image_of images flush.area ≡ gate_opened flush bodied = at_rest_image (image_of end flush.area) (image_of images flush.area) one.1 ∙ image_of_with start flush.area (gate_opened flush bodied) in
      let rest = drop (flush.gate + 1 + length flush.body) (image_of start flush.area) in
      let front = take flush.gate (image_of start flush.area) in
      let less = front_less flush.gate bodied (image_of start flush.area) (body_front flush (image_of start flush.area) grounded.there) in
      let long : length front ≡ flush.gate = length-take-le flush.gate (image_of start flush.area) (omega (arith, grounded.there)) in
      let whole : image_of images flush.area ≡ (front ++ 165 ∷ flush.body) ++ rest =
      image
      ∙ ap (λ bs. bs ++ (165 ∷ []) ++ drop (flush.gate + 1) bodied) less.0
      ∙ ap (λ bs. front ++ (165 ∷ []) ++ bs) (body_back flush (image_of start flush.area) grounded.there)
      ∙ append_assoc front (165 ∷ []) (flush.body ++ rest)
      ∙ sym (append_assoc front (165 ∷ flush.body) rest) in
      let opened : take (flush.gate + 1 + length flush.body) (image_of images flush.area) ≡ front ++ 165 ∷ flush.body =
      ap (take (flush.gate + 1 + length flush.body)) whole ∙ take_at (front ++ 165 ∷ flush.body) rest (flush.gate + 1 + length flush.body) (length-append front (165 ∷ flush.body) ∙ omega (arith, long)) in
      subst (λ (x : Images). holds x (facts ++ flush.group.facts)) (sym (one.0 ∙ with_with start flush.area (gate_opened flush bodied) (image_of images flush.area)))
      (grounded.after (image_of images flush.area) (agrees_bytes _ (image_of images flush.area) one.1.agrees) opened)

module _ (holds : Images → List Fact → Type 0) (flush : Flush) (start : Images) (facts : List Fact) where
  pub due_holds : (both : Areas) → IsAt body_due holds flush start facts both → EachHolds holds both facts
  due_holds both at images is = due_images holds flush start facts at.grounded images (subst (λ (b : Areas). IsCrashImage b images) at.stands is)

  -- an area's write, at rest before
  torn_write : (at : ℕ) (bytes : List ℕ) → at ≤ length (image_of start flush.area) → Torn at (length bytes) (at_rest (image_of start flush.area)) (written at bytes (extent_of (restarted start) flush.area))
  torn_write at bytes le =
      subst (λ (e : Extent). Torn at (length bytes) (at_rest (image_of start flush.area)) (written at bytes e)) (sym (extent_restarted start flush.area))
      (torn_written at bytes (at_rest (image_of start flush.area)) (omega (arith, le, length-map (image_of start flush.area) firm_cell)))

  pub out_holds : (both : Areas) → IsAt body_out holds flush start facts both → EachHolds holds both facts
  out_holds both at images is =
      torn_images holds flush start facts at.grounded (length flush.body) (written (flush.gate + 1) flush.body (extent_of (restarted start) flush.area))
      (torn_write (flush.gate + 1) flush.body (omega (arith, at.grounded.there))) images (subst (λ (b : Areas). IsCrashImage b images) at.stands is)

  pub safe_holds : (both : Areas) → IsAt body_safe holds flush start facts both → EachHolds holds both facts
  safe_holds both at images is = safe_images holds flush start facts at.grounded images (subst (λ (b : Areas). IsCrashImage b images) at.stands is)

  -- what stands in the area once the body is safe
  safe_extent : extent_of (body_safe flush start) flush.area ≡ at_rest (body_written flush (image_of start flush.area))
  safe_extent = extent_restarted (with_body flush start) flush.area ∙ ap at_rest (image_of_with start flush.area (body_written flush (image_of start flush.area)))

  pub set_holds : (both : Areas) → IsAt gate_set holds flush start facts both → EachHoldsEither holds both facts flush.group.facts
  set_holds both at images is =
      let bodied = body_written flush (image_of start flush.area) in
      let there = body_there flush (image_of start flush.area) at.grounded.there in
      torn_gate_images holds flush start facts at.grounded (written flush.gate (165 ∷ []) (extent_of (body_safe flush start) flush.area))
      (subst (λ (e : Extent). Torn flush.gate 1 (at_rest bodied) (written flush.gate (165 ∷ []) e)) (sym safe_extent) (torn_written flush.gate (165 ∷ []) (at_rest bodied) (omega (arith, there, length-map bodied firm_cell))))
      images (subst (λ (b : Areas). IsCrashImage b images) at.stands is)

  pub group_holds : (both : Areas) → IsGrounded holds flush start facts → both ≡ group_safe flush start → EachHolds holds both (facts ++ flush.group.facts)
  group_holds both grounded stands images is = group_images holds flush start facts grounded images (subst (λ (b : Areas). IsCrashImage b images) stands is)

  pub to_out : (old new : Areas) → IsAt body_due holds flush start facts old → new ≡ replaced old flush.area (written (flush.gate + 1) flush.body (extent_of old flush.area)) → IsAt body_out holds flush start facts new
  to_out old new at is = record {
    grounded = at.grounded;
    stands = is ∙ ap (λ (b : Areas). replaced b flush.area (written (flush.gate + 1) flush.body (extent_of b flush.area))) at.stands;
  }

  pub to_safe : (old new : Areas) → IsAt body_out holds flush start facts old → new ≡ synced old → IsAt body_safe holds flush start facts new
  to_safe old new at is = record {
    grounded = at.grounded;
    stands = is ∙ ap synced at.stands ∙ synced_written start flush.area (flush.gate + 1) flush.body;
  }

  pub to_set : (old new : Areas) → IsAt body_safe holds flush start facts old → new ≡ replaced old flush.area (written flush.gate (165 ∷ []) (extent_of old flush.area)) → IsAt gate_set holds flush start facts new
  to_set old new at is = record {
    grounded = at.grounded;
    stands = is ∙ ap (λ (b : Areas). replaced b flush.area (written flush.gate (165 ∷ []) (extent_of b flush.area))) at.stands;
  }

  pub to_group : (old new : Areas) → IsAt gate_set holds flush start facts old → new ≡ synced old → new ≡ group_safe flush start
  to_group old new at is =
      let bodied = body_written flush (image_of start flush.area) in
      is ∙ ap synced at.stands ∙ synced_written (with_body flush start) flush.area flush.gate (165 ∷ [])
      ∙ ap (λ (bs : List ℕ). restarted (with_image (with_body flush start) flush.area (gate_opened flush bs))) (image_of_with start flush.area bodied)
      ∙ ap restarted (with_with start flush.area bodied (gate_opened flush bodied))

  pub body_refused : (old new : Areas) (n : ℕ) → IsAt body_due holds flush start facts old
      → (new ≡ old) ⊎ (Torn (flush.gate + 1) n (extent_of old flush.area) (extent_of new flush.area) × (new ≡ replaced old flush.area (extent_of new flush.area))) → EachHolds holds new facts
  body_refused old new n at (inl same) images is = due_holds old at images (subst (λ (b : Areas). IsCrashImage b images) same is)
  body_refused old new n at (inr torn) images is =
      let was : extent_of old flush.area ≡ at_rest (image_of start flush.area) = ap (λ (b : Areas). extent_of b flush.area) at.stands ∙ extent_restarted start flush.area in
      torn_images holds flush start facts at.grounded n (extent_of new flush.area) (subst (λ (e : Extent). Torn (flush.gate + 1) n e (extent_of new flush.area)) was torn.0) images
      (subst (λ (b : Areas). IsCrashImage b images) (torn.1 ∙ ap (λ (b : Areas). replaced b flush.area (extent_of new flush.area)) at.stands) is)

  pub gate_refused : (old new : Areas) → IsAt body_safe holds flush start facts old
      → (new ≡ old) ⊎ (Torn flush.gate 1 (extent_of old flush.area) (extent_of new flush.area) × (new ≡ replaced old flush.area (extent_of new flush.area))) → EachHoldsEither holds new facts flush.group.facts
  gate_refused old new at (inl same) images is = inl (safe_holds old at images (subst (λ (b : Areas). IsCrashImage b images) same is))
  gate_refused old new at (inr torn) images is =
      let bodied = body_written flush (image_of start flush.area) in
      let was : extent_of old flush.area ≡ at_rest bodied = ap (λ (b : Areas). extent_of b flush.area) at.stands ∙ safe_extent in
      torn_gate_images holds flush start facts at.grounded (extent_of new flush.area) (subst (λ (e : Extent). Torn flush.gate 1 e (extent_of new flush.area)) was torn.0) images
      (subst (λ (b : Areas). IsCrashImage b images) (torn.1 ∙ ap (λ (b : Areas). replaced b flush.area (extent_of new flush.area)) at.stands) is)

  pub same_holds : (old new : Areas) → EachHolds holds old facts → new ≡ old → EachHolds holds new facts
  same_holds old new held same images is = held images (subst (λ (b : Areas). IsCrashImage b images) same is)

  pub same_either : (old new : Areas) (more : List Fact) → EachHoldsEither holds old facts more → new ≡ old → EachHoldsEither holds new facts more
  same_either old new more held same images is = held images (subst (λ (b : Areas). IsCrashImage b images) same is)
