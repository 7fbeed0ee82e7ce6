-- From one stage of writing an area anew to the next, and what a crash may leave behind a device call of it.
use Rattle.std.proofs.Common.{◌≡◌, ◌≢◌, ◌⊎◌, ⊎_elim, inl, inr, ℕ, ◌+◌, ◌^◌, ◌<◌, ◌≤◌, Bool, true, false, ltb, ◌&&◌, List, [], ◌∷◌, length, get_or, take, drop, Option, None, Some, refl, sym, ap, subst, ◌∙◌, arith}
use Rattle.std.proofs.lemmas.Bool.{and_parts, and_from, cases_eq, eqb-true, ltb-true, lt-ltb, le-ltb}
use Rattle.std.proofs.lemmas.List.{append-nil, length-map, nil_from_length}
use Rattle.rr_types.specs.declared.fact.Fact.{Fact}
use Rattle.rr_types.specs.declared.refusal.Refusal.{Refusal}
use Rattle.rr_types.specs.declared.refusal.Refusal.TheVariants.{OutOfMemory, TooLarge}
use Rattle.rr_disk.specs.declared.area.Area.{Area}
use Rattle.rr_disk.specs.declared.area.Area.TheVariants.{First, Second}
use Rattle.rr_disk.specs.Areas.{Extent, Areas, Torn, extent_of, replaced, written, at_rest, firm_cell}
use Rattle.rr_disk.specs.Crash.{Images, IsCrashImage, restarted}
use Rattle.rr_disk.proofs.Agreeing.{agrees_length, torn_back}
use Rattle.rr_disk.proofs.Torn.{torn_written}
use Rattle.rr_frame.specs.declared.version.Version.TheVariants.{One, Two}
use Rattle.rr_frame.specs.Snapshots.{Snapped}
use Rattle.rr_frame.specs.SnapshotFormat.{snapshot_bytes, IsLawfulSnapshot}
use Rattle.rr_journal.specs.Image.{Content, Found, Unformatted, Broken, Active, Outdated, Front, Blank, Begins, front_of, active, found_by, found}
use Rattle.rr_journal.specs.Held.{StandsFor, Holds}
use Rattle.rr_journal.specs.Flushes.{Flush}
use Rattle.rr_journal.specs.Moments.{image_of, with_image, with_group, gate_opened, body_written, IsGrounded, IsAt, EachHolds, body_due, body_out, body_safe, gate_set}
use Rattle.rr_journal.specs.Calls.{Write, after_call, must_close}
use Rattle.rr_journal.specs.OpeningTable.{IsLeftBy}
use Rattle.rr_journal.specs.Openings.{snapshot_with}
use Rattle.rr_journal.specs.Migration.{snapshot_size, migrated, may_migrate}
use Rattle.rr_journal.specs.Rewrites.{writes_anew, area_anew, content_anew, IsSized, flush_anew, IsInStage}
use Rattle.rr_journal.specs.declared.stage.Stage.{Stage}
use Rattle.rr_journal.specs.declared.stage.Stage.TheVariants.{Closing, SettlingClosed, WritingBody, SettlingBody, OpeningGate, SettlingGate}
use Rattle.rr_journal.specs.Stages.{call_at, stage_behind}
use Rattle.rr_journal.proofs.BesideLaws.{blank_beside, newer_beside}
use Rattle.rr_journal.proofs.FlushStates.{extent_restarted, image_of_with, one_area, synced_written}
use Rattle.rr_journal.proofs.FlushLaws.{opened, length-frame}
use Rattle.rr_journal.proofs.FormatLaws.{closed_blank, short_blank, open_at_front, blanks, both_blank}
use Rattle.rr_journal.proofs.GroundLaws.{content_of, snapped}
use Rattle.rr_journal.proofs.HeldLaws.{either_held, rest_held}
use Rattle.rr_journal.proofs.SnapshotSize.{snapshot_sized}
use Rattle.rr_journal.proofs.Table.{due_holds, out_holds, safe_holds, set_holds, to_out, to_safe, to_set, to_group, body_refused, gate_refused}

pub gate_anew : (was : Found) → writes_anew was ≡ true → (content_anew was).gate ≡ 5 + snapshot_size (content_anew was).promise
gate_anew Unformatted due = refl
gate_anew (Broken area offset) due = absurd cc
gate_anew (Active area c) due = absurd cc
gate_anew (Outdated area c) due = refl

-- the snapshot's length has four bytes
pub short_anew : (n p : ℕ) (was : Found) → writes_anew was ≡ true → length (snapshot_bytes (snapshot_with n p (content_anew was))) < 2 ^ 32
short_anew n p Unformatted due = omega (arith, snapshot_sized (snapshot_with n p (content_anew Unformatted)))
short_anew n p (Broken area offset) due = absurd cc
short_anew n p (Active area c) due = absurd cc
short_anew n p (Outdated area c) due =
    let both = and_parts (ltb (c.epoch + 1) (2 ^ 64)) (ltb (6 + snapshot_size c.promise) (2 ^ 32)) due in
    omega (arith, ltb-true (6 + snapshot_size c.promise) (2 ^ 32) both.1, snapshot_sized (snapshot_with n p (content_anew (Outdated area c))))

-- the frame ends with the gate of what the area holds then
pub sized_anew : (n p : ℕ) (was : Found) (body : List ℕ) (stage : Stage) → writes_anew was ≡ true → body ≡ (flush_anew n p was).body → IsSized (record { found = was; body = body; stage = stage })
sized_anew n p was body stage due is = record {
  due = due;
  gate = ap (λ (b : List ℕ). length b) is
      ∙ omega (arith, length-frame (snapshot_bytes (snapshot_with n p (content_anew was))), snapshot_sized (snapshot_with n p (content_anew was)), gate_anew was due);
}

-- a snapshot that has its place
pub may_be : (n p : ℕ) (c : Content) (s : Snapped) → s ≡ snapshot_with n p (migrated c) → c.epoch + 1 < 2 ^ 64 → 6 + length (snapshot_bytes s) < 2 ^ 32 → may_migrate c ≡ true
may_be n p c s is newer short =
    let size : length (snapshot_bytes s) ≡ snapshot_size c.promise = snapshot_sized s ∙ ap (λ (x : Snapped). snapshot_size x.entries) is in
    and_from (ltb (c.epoch + 1) (2 ^ 64)) (ltb (6 + snapshot_size c.promise) (2 ^ 32)) (lt-ltb (c.epoch + 1) (2 ^ 64) newer) (lt-ltb (6 + snapshot_size c.promise) (2 ^ 32) (omega (arith, size, short)))

-- and one that hasn't
too_large : (n p : ℕ) (c : Content) (s : Snapped) → s ≡ snapshot_with n p (migrated c) → 2 ^ 32 ≤ 6 + length (snapshot_bytes s) → may_migrate c ≡ false
too_large n p c s is long =
    let size : length (snapshot_bytes s) ≡ snapshot_size c.promise = snapshot_sized s ∙ ap (λ (x : Snapped). snapshot_size x.entries) is in
    by (ltb (c.epoch + 1) (2 ^ 64)) (ltb (6 + snapshot_size c.promise) (2 ^ 32)) (le-ltb (6 + snapshot_size c.promise) (2 ^ 32) (omega (arith, size, long)))
  where
    by : (a b : Bool) → b ≡ false → (a && b) ≡ false
    by true b e = e
    by false b e = refl

pub refused_migration : (n p : ℕ) (c : Content) (s : Snapped) (e : Refusal) → s ≡ snapshot_with n p (migrated c) → (e ≡ OutOfMemory) ⊎ ((e ≡ TooLarge) × (2 ^ 32 ≤ 6 + length (snapshot_bytes s)))
    → (e ≡ OutOfMemory) ⊎ ((e ≡ TooLarge) × (may_migrate c ≡ false))
refused_migration n p c s e is (inl memory) = inl memory
refused_migration n p c s e is (inr large) = inr (large.0, too_large n p c s is large.1)

-- where an area of version 1 stands for facts, it is memory that refuses
pub refused_for_memory : (c : Content) (area : Area) (facts : List Fact) (e : Refusal) → StandsFor (Outdated area c) facts → (e ≡ OutOfMemory) ⊎ ((e ≡ TooLarge) × (may_migrate c ≡ false)) → e ≡ OutOfMemory
refused_for_memory c area facts e stands (inl memory) = memory
refused_for_memory c area facts e stands (inr large) = absurd (never (may_migrate c) stands.2 large.1)
  where
    never : (may : Bool) → may ≡ true → may ≡ false → ⊥
    never may one other = cc

-- what the snapshot begins
pub content_is : (n p : ℕ) (was : Found) → writes_anew was ≡ true → content_of (snapshot_with n p (content_anew was)) ≡ content_anew was
content_is n p was due =
    let c = content_anew was in
    let same : 5 + length (snapshot_bytes (snapshot_with n p (content_anew was))) ≡ (content_anew was).gate = omega (arith, snapshot_sized (snapshot_with n p (content_anew was)), gate_anew was due) in
    λ i. record { epoch = c.epoch; promise = c.promise; next = c.next; gate = same i }

-- images in which the same is found hold the same facts
pub held_same : (n p : ℕ) (facts : List Fact) (old new : Images) → Holds n p old facts → found n p new.of_first new.of_second ≡ found n p old.of_first old.of_second → Holds n p new facts
held_same n p facts old new holds same = record { fit = holds.fit; stands = subst (λ (f : Found). StandsFor f facts) (sym same) holds.stands }

-- and so does what an area holds that was written anew
anew_stands : (was : Found) (facts : List Fact) → writes_anew was ≡ true → StandsFor was facts → StandsFor (Active (area_anew was) (content_anew was)) facts
anew_stands Unformatted facts due none =
    subst (λ (fs : List Fact). StandsFor (Active (area_anew Unformatted) (content_anew Unformatted)) fs) (sym (nil_from_length facts none)) (refl, refl)
anew_stands (Broken area offset) facts due stands = absurd cc
anew_stands (Active area c) facts due stands = absurd cc
anew_stands (Outdated area c) facts due stands = (stands.0, stands.1)

pub held_anew : (n p : ℕ) (was : Found) (facts : List Fact) (old new : Images) → writes_anew was ≡ true → found n p old.of_first old.of_second ≡ was → Holds n p old facts
    → found n p new.of_first new.of_second ≡ Active (area_anew was) (content_anew was) → Holds n p new facts
held_anew n p was facts old new due finds holds ends = record {
  fit = holds.fit;
  stands = subst (λ (f : Found). StandsFor f facts) (sym ends) (anew_stands was facts due (subst (λ (f : Found). StandsFor f facts) finds holds.stands));
}

-- as long as the area isn't formatted, the same is found
pub found_beside : (n p : ℕ) (was : Found) (start : Images) (image : List ℕ) → writes_anew was ≡ true → found n p start.of_first start.of_second ≡ was → front_of n p image ≡ Blank
    → found n p (with_image start (area_anew was) image).of_first (with_image start (area_anew was) image).of_second ≡ was
found_beside n p Unformatted start image due finds blank = both_blank n p image start.of_second blank (blanks n p start.of_first start.of_second finds).1
found_beside n p (Broken area offset) start image due finds blank = absurd cc
found_beside n p (Active area c) start image due finds blank = absurd cc
found_beside n p (Outdated area c) start image due finds blank = blank_beside One n p start area c image finds blank

-- once its gate is open behind the snapshot, the area is active
pub found_anew : (n p : ℕ) (was : Found) (start : Images) (image : List ℕ) → writes_anew was ≡ true → found n p start.of_first start.of_second ≡ was → IsLawfulSnapshot (snapshot_with n p (content_anew was))
    → take (1 + length (flush_anew n p was).body) image ≡ 165 ∷ (flush_anew n p was).body
    → found n p (with_image start (area_anew was) image).of_first (with_image start (area_anew was) image).of_second ≡ Active (area_anew was) (content_anew was)
unfolding found
found_anew n p Unformatted start image due finds spelt e =
    let s : Snapped = snapshot_with n p (content_anew Unformatted) in
    let own = snapped (snapshot_with n p (content_anew Unformatted)) image spelt (short_anew n p Unformatted due) e in
    ap (λ (f : Front). found_by n p f (front_of n p start.of_second)) own.front
    ∙ ap (λ (f : Front). found_by n p (Begins Two (content_of (snapshot_with n p (content_anew Unformatted))) own.rest) f) (blanks n p start.of_first start.of_second finds).1
    ∙ ap (active Two First) own.content
    ∙ ap (Active First) (content_is n p Unformatted due)
found_anew n p (Broken area offset) start image due finds spelt e = absurd cc
found_anew n p (Active area c) start image due finds spelt e = absurd cc
found_anew n p (Outdated area c) start image due finds spelt e =
    let own = snapped (snapshot_with n p (content_anew (Outdated area c))) image spelt (short_anew n p (Outdated area c) due) e in
    newer_beside One n p start area c (content_of (snapshot_with n p (content_anew (Outdated area c)))) image own.rest finds own.front refl own.content
    ∙ ap (Active (area_anew (Outdated area c))) (content_is n p (Outdated area c) due)

same_images : (start : Images) (area : Area) (image : List ℕ) → image ≡ image_of start area → with_image start area image ≡ start
same_images start First image same = λ i. record { of_first = same i; of_second = start.of_second }
same_images start Second image same = λ i. record { of_first = start.of_first; of_second = same i }

module _ (n p : ℕ) (was : Found) (due : writes_anew was ≡ true) (start : Images) (finds : found n p start.of_first start.of_second ≡ was) where
  -- however the closing of the area's first gate ended, the same is found
  pub closing_finds : must_close (image_of start (area_anew was)) ≡ true → (extent : Extent) → Torn 0 1 (at_rest (image_of start (area_anew was))) extent
      → (images : Images) → IsCrashImage (replaced (restarted start) (area_anew was) extent) images → found n p images.of_first images.of_second ≡ was
  closing_finds shuts extent torn images left =
      let one = one_area start (area_anew was) extent images left in
      let image = image_of images (area_anew was) in
      ap (λ (x : Images). found n p x.of_first x.of_second) one.0
      ∙ ⊎_elim (λ (gate : get_or image 0 0 ≡ 165). by gate (image_of start (area_anew was)) refl shuts) (λ (shut : get_or image 0 0 ≢ 165). found_beside n p was start image due finds (closed_blank n p image shut)) (cases_eq (get_or image 0 0) 165)
    where
      by : get_or (image_of images (area_anew was)) 0 0 ≡ 165 → (bytes : List ℕ) → image_of start (area_anew was) ≡ bytes → must_close bytes ≡ true
          → found n p (with_image start (area_anew was) (image_of images (area_anew was))).of_first (with_image start (area_anew was) (image_of images (area_anew was))).of_second ≡ was
      by gate [] is shuts =
          let one = one_area start (area_anew was) extent images left in
          let image = image_of images (area_anew was) in
          found_beside n p was start image due finds
          (short_blank n p image (omega (arith, agrees_length extent.cells image one.1.agrees, torn.no_longer, length-map (image_of start (area_anew was)) firm_cell, ap (λ (b : List ℕ). length b) is)))
      by gate (g ∷ bytes) is shuts =
          let one = one_area start (area_anew was) extent images left in
          let image = image_of images (area_anew was) in
          let back = torn_back 0 1 (image_of start (area_anew was)) image extent torn one.1 (omega (arith, ap (λ (b : List ℕ). length b) is)) in
          let same : image_of images (area_anew was) ≡ image_of start (area_anew was) = again image gate (omega (arith, back.0, ap (λ (b : List ℕ). length b) is)) (back.1 ∙ ap (drop 1) is) (eqb-true g 165 shuts) ∙ sym is in
          ap (λ (x : Images). found n p x.of_first x.of_second) (same_images start (area_anew was) (image_of images (area_anew was)) same) ∙ finds
        where
          again : (image : List ℕ) → get_or image 0 0 ≡ 165 → 0 < length image → drop 1 image ≡ bytes → g ≡ 165 → image ≡ g ∷ bytes
          again [] gate some behind open_gate = absurd (omega arith)
          again (x ∷ image) gate some behind open_gate = let head : x ≡ g = gate ∙ sym open_gate in rw (head, behind) refl

  closing_holds : (facts : List Fact) → Holds n p start facts → must_close (image_of start (area_anew was)) ≡ true → (extent : Extent) → Torn 0 1 (at_rest (image_of start (area_anew was))) extent
      → (both : Areas) → both ≡ replaced (restarted start) (area_anew was) extent → EachHolds (Holds n p) both facts
  closing_holds facts holds shuts extent torn both is images left =
      held_same n p facts start images holds (closing_finds shuts extent torn images (subst (λ (b : Areas). IsCrashImage b images) is left) ∙ sym finds)

  module _ (spelt : IsLawfulSnapshot (snapshot_with n p (content_anew was))) where
    pub grounded_anew : (facts : List Fact) → Holds n p start facts → must_close (image_of start (area_anew was)) ≡ false → IsGrounded (Holds n p) (flush_anew n p was) start facts
    grounded_anew facts holds shut =
        let front = open_at_front (image_of start (area_anew was)) shut in
        record {
          there = front.0;
          closed = front.1;
          before = λ image bytes long same closed.
              held_same n p facts start (with_image start (area_anew was) image) holds (found_beside n p was start image due finds (closed_blank n p image closed) ∙ sym finds);
          after = λ image bytes e.
              subst (λ (fs : List Fact). Holds n p (with_image start (area_anew was) image) fs) (sym (append-nil facts))
              (held_anew n p was facts start (with_image start (area_anew was) image) due finds holds (found_anew n p was start image due finds spelt e));
        }

    -- however far it has come, each crash leaves the facts
    pub held_rewriting : (facts : List Fact) → Holds n p start facts → (stage : Stage) (both : Areas) → IsInStage stage (flush_anew n p was) start both → EachHolds (Holds n p) both facts
    held_rewriting facts holds Closing both at = rest_held n p facts start both at.1 holds
    held_rewriting facts holds SettlingClosed both at =
        let area = area_anew was in
        let torn : Torn 0 1 (at_rest (image_of start (area_anew was))) (written 0 (0 ∷ []) (extent_of (restarted start) (area_anew was))) =
        subst (λ (e : Extent). Torn 0 1 (at_rest (image_of start (area_anew was))) (written 0 (0 ∷ []) e)) (sym (extent_restarted start (area_anew was))) (torn_written 0 (0 ∷ []) (at_rest (image_of start (area_anew was))) (omega arith)) in
        closing_holds facts holds at.0 (written 0 (0 ∷ []) (extent_of (restarted start) (area_anew was))) torn both at.1
    held_rewriting facts holds WritingBody both at = due_holds (Holds n p) (flush_anew n p was) start facts both (record { grounded = grounded_anew facts holds at.0; stands = at.1 })
    held_rewriting facts holds SettlingBody both at = out_holds (Holds n p) (flush_anew n p was) start facts both (record { grounded = grounded_anew facts holds at.0; stands = at.1 })
    held_rewriting facts holds OpeningGate both at = safe_holds (Holds n p) (flush_anew n p was) start facts both (record { grounded = grounded_anew facts holds at.0; stands = at.1 })
    held_rewriting facts holds SettlingGate both at =
        either_held (Holds n p) facts both (set_holds (Holds n p) (flush_anew n p was) start facts both (record { grounded = grounded_anew facts holds at.0; stands = at.1 }))

    -- also where a device call has failed
    pub failed_rewriting : (facts : List Fact) → Holds n p start facts → (stage : Stage) (body : List ℕ) (old new : Areas) → IsInStage stage (flush_anew n p was) start old → IsLeftBy (call_at (area_anew was) body stage) old new
        → (new ≡ old) ⊎ EachHolds (Holds n p) new facts
    failed_rewriting facts holds Closing body old new at left =
        let was_there : extent_of old (area_anew was) ≡ at_rest (image_of start (area_anew was)) = ap (λ (b : Areas). extent_of b (area_anew was)) at.1 ∙ extent_restarted start (area_anew was) in
        let torn : Torn 0 1 (at_rest (image_of start (area_anew was))) (extent_of new (area_anew was)) = subst (λ (e : Extent). Torn 0 1 e (extent_of new (area_anew was))) was_there left.0 in
        inr (closing_holds facts holds at.0 (extent_of new (area_anew was)) torn new (left.1 ∙ ap (λ (b : Areas). replaced b (area_anew was) (extent_of new (area_anew was))) at.1))
    failed_rewriting facts holds SettlingClosed body old new at left = inl left
    failed_rewriting facts holds WritingBody body old new at left =
        inr (body_refused (Holds n p) (flush_anew n p was) start facts old new (length body) (record { grounded = grounded_anew facts holds at.0; stands = at.1 }) (inr left))
    failed_rewriting facts holds SettlingBody body old new at left = inl left
    failed_rewriting facts holds OpeningGate body old new at left =
        inr (either_held (Holds n p) facts new (gate_refused (Holds n p) (flush_anew n p was) start facts old new (record { grounded = grounded_anew facts holds at.0; stands = at.1 }) (inr left)))
    failed_rewriting facts holds SettlingGate body old new at left = inl left

    -- behind a device call: the next stage, or the area is active; and what was held is held
    abbrev pub Behind : Areas → Option Stage → Type 0
    Behind new (Some stage) = (to : Images) × (found n p to.of_first to.of_second ≡ was) × IsInStage stage (flush_anew n p was) to new × ((facts : List Fact) → Holds n p start facts → Holds n p to facts)
    Behind new None = (to : Images) × (new ≡ restarted to) × (found n p to.of_first to.of_second ≡ Active (area_anew was) (content_anew was)) × ((facts : List Fact) → Holds n p start facts → Holds n p to facts)

    -- a flush that rests on nothing but a closed gate
    placed : (moment : Flush → Images → Areas) (both : Areas) → must_close (image_of start (area_anew was)) ≡ false → both ≡ moment (flush_anew n p was) start → IsAt moment (λ images facts. Unit {0}) (flush_anew n p was) start [] both
    placed moment both shut stands =
        let front = open_at_front (image_of start (area_anew was)) shut in
        record { grounded = record { there = front.0; closed = front.1; before = λ image bytes long same closed. tt; after = λ image bytes e. tt }; stands = stands }

    closed_behind : (old new : Areas) → IsInStage SettlingClosed (flush_anew n p was) start old → new ≡ after_call (call_at (area_anew was) (flush_anew n p was).body SettlingClosed) old → Behind new (Some WritingBody)
    closed_behind old new at is =
        let image : List ℕ = 0 ∷ drop 1 (image_of start (area_anew was)) in
        let here : image_of (with_image start (area_anew was) (0 ∷ drop 1 (image_of start (area_anew was)))) (area_anew was) ≡ 0 ∷ drop 1 (image_of start (area_anew was)) = image_of_with start (area_anew was) (0 ∷ drop 1 (image_of start (area_anew was))) in
        let same = found_beside n p was start (0 ∷ drop 1 (image_of start (area_anew was))) due finds (closed_blank n p (0 ∷ drop 1 (image_of start (area_anew was))) (λ e. absurd (omega (arith, e)))) in (
          with_image start (area_anew was) (0 ∷ drop 1 (image_of start (area_anew was))),
          same,
          (ap must_close here, is ∙ ap (after_call (call_at (area_anew was) (flush_anew n p was).body SettlingClosed)) at.1 ∙ synced_written start (area_anew was) 0 (0 ∷ [])),
          λ facts holds. held_same n p facts start (with_image start (area_anew was) (0 ∷ drop 1 (image_of start (area_anew was)))) holds (same ∙ sym finds),
        )

    ended : (old new : Areas) → IsInStage SettlingGate (flush_anew n p was) start old → new ≡ after_call (call_at (area_anew was) (flush_anew n p was).body SettlingGate) old → Behind new None
    ended old new at is =
        let bytes = image_of start (area_anew was) in
        let image : List ℕ = gate_opened (flush_anew n p was) (body_written (flush_anew n p was) (image_of start (area_anew was))) in
        let ends = found_anew n p was start (gate_opened (flush_anew n p was) (body_written (flush_anew n p was) (image_of start (area_anew was)))) due finds spelt (opened (flush_anew n p was) (image_of start (area_anew was)) (open_at_front (image_of start (area_anew was)) at.0).0) in (
          with_group (flush_anew n p was) start,
          to_group (λ images facts. Unit {0}) (flush_anew n p was) start [] old new (placed gate_set old at.0 at.1) is,
          ends,
          λ facts holds. held_anew n p was facts start (with_group (flush_anew n p was) start) due finds holds ends,
        )

    pub goes_rewriting : (stage : Stage) (old new : Areas) → IsInStage stage (flush_anew n p was) start old → new ≡ after_call (call_at (area_anew was) (flush_anew n p was).body stage) old → Behind new (stage_behind stage)
    goes_rewriting Closing old new at is = (start, finds, (at.0, is ∙ ap (after_call (Write (area_anew was) 0 (0 ∷ []))) at.1), λ facts holds. holds)
    goes_rewriting SettlingClosed old new at is = closed_behind old new at is
    goes_rewriting WritingBody old new at is = (start, finds, (at.0, (to_out (λ images facts. Unit {0}) (flush_anew n p was) start [] old new (placed body_due old at.0 at.1) is).stands), λ facts holds. holds)
    goes_rewriting SettlingBody old new at is = (start, finds, (at.0, (to_safe (λ images facts. Unit {0}) (flush_anew n p was) start [] old new (placed body_out old at.0 at.1) is).stands), λ facts holds. holds)
    goes_rewriting OpeningGate old new at is = (start, finds, (at.0, (to_set (λ images facts. Unit {0}) (flush_anew n p was) start [] old new (placed body_safe old at.0 at.1) is).stands), λ facts holds. holds)
    goes_rewriting SettlingGate old new at is = ended old new at is
