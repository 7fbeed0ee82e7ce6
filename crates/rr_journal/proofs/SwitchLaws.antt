-- From one stage of a switch to the next, and what a crash may leave behind a device call of it.
use Rattle.std.proofs.Common.{◌≡◌, ◌≢◌, ◌⊎◌, inl, inr, ℕ, ◌+◌, ◌<◌, Bool, true, false, ◌^◌, List, [], ◌∷◌, length, get_or, drop, Option, None, Some, refl, sym, ap, subst, ◌∙◌, arith}
use Rattle.rr_types.specs.declared.fact.Fact.{Fact}
use Rattle.rr_types.specs.declared.promise.Entry.{Entry}
use Rattle.rr_types.specs.Promises.{promise_of}
use Rattle.rr_disk.specs.declared.area.Area.{Area}
use Rattle.rr_disk.specs.declared.area.Area.TheVariants.{First, Second}
use Rattle.rr_disk.specs.Areas.{Extent, Areas, Torn, extent_of, replaced, written, at_rest}
use Rattle.rr_disk.specs.Crash.{Images, IsCrashImage, restarted}
use Rattle.rr_disk.proofs.Torn.{torn_written}
use Rattle.rr_frame.specs.declared.version.Version.TheVariants.{Two}
use Rattle.rr_frame.specs.SnapshotFormat.{snapshot_bytes, IsLawfulSnapshot}
use Rattle.rr_journal.specs.Flushes.{Flush}
use Rattle.rr_journal.specs.Moments.{image_of, with_image, with_group, EachHolds, gate_opened, body_written}
use Rattle.rr_journal.proofs.FlushStates.{extent_restarted, image_of_with, synced_written}
use Rattle.rr_journal.proofs.Table.{due_holds, out_holds, safe_holds, set_holds, to_out, to_safe, to_set, to_group, body_refused, gate_refused}
use Rattle.rr_journal.specs.declared.journal.Journal.{Journal}
use Rattle.rr_journal.specs.Calls.{Write, after_call, frame_bytes, must_close}
use Rattle.rr_journal.specs.Image.{Content, Active}
use Rattle.rr_journal.specs.Held.{Holds}
use Rattle.rr_journal.specs.Journals.{IsOver}
use Rattle.rr_journal.specs.OpeningTable.{IsLeftBy}
use Rattle.rr_journal.specs.OtherAreas.{other_area}
use Rattle.rr_journal.proofs.FlushLaws.{opened, length-frame}
use Rattle.rr_journal.proofs.FormatLaws.{closed_blank, open_at_front}
use Rattle.rr_journal.proofs.HeldLaws.{either_held, rest_held}
use Rattle.rr_journal.specs.declared.stage.Stage.{Stage}
use Rattle.rr_journal.specs.declared.stage.Stage.TheVariants.{Closing, SettlingClosed, WritingBody, SettlingBody, OpeningGate, SettlingGate}
use Rattle.rr_journal.specs.declared.switch.Switching as code
use Rattle.rr_journal.specs.declared.switch.Switching.TheVariants as switching
use Rattle.rr_journal.specs.Stages.{first_stage, stage_behind}
use Rattle.rr_journal.specs.Switches.{Switch, snapshot_of, due_call, switched}
use Rattle.rr_journal.specs.SwitchTable.{GoesOn, IsSlotsOver, flush_of, IsSwitchOf, IsAtStage, IsSwitching, StandsBehind}
use Rattle.rr_journal.proofs.BesideLaws.{active_closes, blank_beside}
use Rattle.rr_journal.proofs.GroundLaws.{held_beside, closing_images, found_snapped, held_snapped, grounded}

-- a switch of these areas in some stage
abbrev pub switch_of : {D : Type 0} → Journal D → List Fact → ℕ → Stage → Switch
switch_of slots facts k stage = record {
  nodes = slots.nodes;
  node = slots.node;
  area = other_area slots.area;
  epoch = slots.epoch + 1;
  next = k;
  body = frame_bytes (snapshot_bytes (snapshot_of slots (promise_of facts)));
  stage = stage;
}

pub is_switch : {D : Type 0} (slots : Journal D) (job : Switch) (facts : List Fact) → IsSwitchOf slots job facts → job ≡ switch_of slots facts job.next job.stage
is_switch slots job facts own = λ i. record { nodes = own.nodes i; node = own.node i; area = own.area i; epoch = own.epoch i; next = job.next; body = own.body i; stage = job.stage }

other_other : (area : Area) → other_area (other_area area) ≡ area
other_other First = refl
other_other Second = refl

beside_with : (start : Images) (area : Area) (image : List ℕ) → image_of (with_image start (other_area area) image) area ≡ image_of start area
beside_with start First image = refl
beside_with start Second image = refl

module _ {D : Type 0} (slots : Journal D) (facts : List Fact) (k : ℕ) where
  -- what the areas stand for
  abbrev now : Content
  now = record { epoch = slots.epoch; promise = promise_of facts; next = slots.next; gate = slots.gate }

  -- however far a switch has come, each crash leaves the facts
  pub held : (stage : Stage) (start : Images) (both : Areas) → IsOver slots start facts → IsAtStage stage (switch_of slots facts k stage) start facts both → EachHolds (Holds slots.nodes slots.node) both facts
  held Closing start both over at = rest_held slots.nodes slots.node facts start both at.1 over.holds
  held SettlingClosed start both over at =
      let area = other_area slots.area in
      let torn : Torn 0 1 (at_rest (image_of start area)) (written 0 (0 ∷ []) (extent_of (restarted start) area)) =
      subst (λ (e : Extent). Torn 0 1 (at_rest (image_of start area)) (written 0 (0 ∷ []) e)) (sym (extent_restarted start area)) (torn_written 0 (0 ∷ []) (at_rest (image_of start area)) (omega arith)) in
      λ images is. closing_images slots.nodes slots.node k start facts slots.area now over.holds over.active at.0 (written 0 (0 ∷ []) (extent_of (restarted start) area)) torn images
      (subst (λ (b : Areas). IsCrashImage b images) at.1 is)
  held WritingBody start both over at = due_holds (Holds slots.nodes slots.node) (flush_of (switch_of slots facts k WritingBody)) start facts both at
  held SettlingBody start both over at = out_holds (Holds slots.nodes slots.node) (flush_of (switch_of slots facts k SettlingBody)) start facts both at
  held OpeningGate start both over at = safe_holds (Holds slots.nodes slots.node) (flush_of (switch_of slots facts k OpeningGate)) start facts both at
  held SettlingGate start both over at = either_held (Holds slots.nodes slots.node) facts both (set_holds (Holds slots.nodes slots.node) (flush_of (switch_of slots facts k SettlingGate)) start facts both at)

  -- also where a device call has failed
  pub held_failed : (stage : Stage) (start : Images) (old new : Areas) → IsOver slots start facts → IsAtStage stage (switch_of slots facts k stage) start facts old
      → (new ≡ old) ⊎ IsLeftBy (due_call (switch_of slots facts k stage)) old new → EachHolds (Holds slots.nodes slots.node) new facts
  held_failed stage start old new over at (inl same) = subst (λ (b : Areas). EachHolds (Holds slots.nodes slots.node) b facts) (sym same) (held stage start old over at)
  held_failed Closing start old new over at (inr left) =
      let area = other_area slots.area in
      let was : extent_of old area ≡ at_rest (image_of start area) = ap (λ (b : Areas). extent_of b area) at.1 ∙ extent_restarted start area in
      let torn : Torn 0 1 (at_rest (image_of start area)) (extent_of new area) = subst (λ (e : Extent). Torn 0 1 e (extent_of new area)) was left.0 in
      λ images is. closing_images slots.nodes slots.node k start facts slots.area now over.holds over.active at.0 (extent_of new area) torn images
      (subst (λ (b : Areas). IsCrashImage b images) (left.1 ∙ ap (λ (b : Areas). replaced b area (extent_of new area)) at.1) is)
  held_failed SettlingClosed start old new over at (inr left) = subst (λ (b : Areas). EachHolds (Holds slots.nodes slots.node) b facts) (sym left) (held SettlingClosed start old over at)
  held_failed WritingBody start old new over at (inr left) =
      body_refused (Holds slots.nodes slots.node) (flush_of (switch_of slots facts k WritingBody)) start facts old new (length (frame_bytes (snapshot_bytes (snapshot_of slots (promise_of facts))))) at (inr left)
  held_failed SettlingBody start old new over at (inr left) = subst (λ (b : Areas). EachHolds (Holds slots.nodes slots.node) b facts) (sym left) (held SettlingBody start old over at)
  held_failed OpeningGate start old new over at (inr left) =
      either_held (Holds slots.nodes slots.node) facts new (gate_refused (Holds slots.nodes slots.node) (flush_of (switch_of slots facts k OpeningGate)) start facts old new at (inr left))
  held_failed SettlingGate start old new over at (inr left) = subst (λ (b : Areas). EachHolds (Holds slots.nodes slots.node) b facts) (sym left) (held SettlingGate start old over at)

  -- behind a device call that succeeded: the next stage, or areas that rest on images of the facts
  abbrev pub Behind : Areas → Option Stage → Type 0
  Behind new (Some stage) = (start : Images) × IsOver slots start facts × IsAtStage stage (switch_of slots facts k stage) start facts new
  Behind new None = (end : Images) × (new ≡ restarted end) × IsSlotsOver (switched (switch_of slots facts k SettlingGate) slots) end facts

  -- the other area once its gate is closed
  over_closed : (start : Images) (image : List ℕ) → IsOver slots start facts → get_or image 0 0 ≢ 165 → IsOver slots (with_image start (other_area slots.area) image) facts
  over_closed start image over shut =
      let blank = closed_blank slots.nodes slots.node image shut in
      record {
        holds = held_beside slots.nodes slots.node k start facts slots.area now over.holds over.active image blank;
        active = blank_beside Two slots.nodes slots.node start slots.area now image over.active blank;
      }

  module _ (spelt : IsLawfulSnapshot (snapshot_of slots (promise_of facts))) (short : length (snapshot_bytes (snapshot_of slots (promise_of facts))) < 2 ^ 32) where
    -- the body may be written where the other area begins with a closed gate
    pub body_is_due : (start : Images) (both : Areas) → IsOver slots start facts → both ≡ restarted start → 0 < length (image_of start (other_area slots.area)) → get_or (image_of start (other_area slots.area)) 0 0 ≢ 165
        → IsAtStage WritingBody (switch_of slots facts k WritingBody) start facts both
    body_is_due start both over stands there shut = record { grounded = grounded slots.nodes slots.node k start facts slots.area now over.holds over.active spelt short there shut; stands = stands }

    closed : (start : Images) (old new : Areas) → IsOver slots start facts → old ≡ after_call (Write (other_area slots.area) 0 (0 ∷ [])) (restarted start) → new ≡ after_call (due_call (switch_of slots facts k SettlingClosed)) old
        → Behind new (Some WritingBody)
    closed start old new over was is =
        let area = other_area slots.area in
        let image : List ℕ = 0 ∷ drop 1 (image_of start (other_area slots.area)) in
        let here : image_of (with_image start (other_area slots.area) image) (other_area slots.area) ≡ image = image_of_with start (other_area slots.area) image in
        let after = over_closed start image over (λ e. absurd (omega (arith, e))) in
        let stands : new ≡ restarted (with_image start (other_area slots.area) image) = is ∙ ap (after_call (due_call (switch_of slots facts k SettlingClosed))) was ∙ synced_written start area 0 (0 ∷ []) in (
          with_image start (other_area slots.area) image,
          after,
          body_is_due (with_image start (other_area slots.area) image) new after stands (omega (arith, ap (λ (b : List ℕ). length b) here)) (λ e. absurd (omega (arith, ap (λ (b : List ℕ). get_or b 0 0) here, e))),
        )

    ended : (start : Images) (old new : Areas) → IsOver slots start facts → IsAtStage SettlingGate (switch_of slots facts k SettlingGate) start facts old → new ≡ after_call (due_call (switch_of slots facts k SettlingGate)) old → Behind new None
    ended start old new over at is =
        let n = slots.nodes in
        let p = slots.node in
        let area = other_area slots.area in
        let flush : Flush = flush_of (switch_of slots facts k SettlingGate) in
        let bytes = image_of start (other_area slots.area) in
        let image : List ℕ = gate_opened flush (body_written flush bytes) in
        let e = opened flush bytes at.grounded.there in
        let long : length flush.body ≡ 5 + length (snapshot_bytes (snapshot_of slots (promise_of facts))) = length-frame (snapshot_bytes (snapshot_of slots (promise_of facts))) in
        let snapped = found_snapped n p k start facts slots.area now over.holds over.active spelt short image e in
        let beside : image_of (with_image start (other_area slots.area) image) (other_area (other_area slots.area)) ≡ image_of start slots.area =
        ap (image_of (with_image start (other_area slots.area) image)) (other_other slots.area) ∙ beside_with start slots.area image in (
          with_group flush start,
          to_group (Holds n p) flush start facts old new at is,
          record {
            over = record {
              holds = held_snapped n p k start facts slots.area now over.holds over.active spelt short image e;
              active = snapped ∙ ap (λ (g : ℕ). Active area (record { epoch = slots.epoch + 1; promise = promise_of facts; next = slots.next; gate = g })) (sym long);
            };
            closes = sym (ap must_close beside ∙ active_closes n p start slots.area now over.active);
          },
        )

    pub goes : (stage : Stage) (start : Images) (old new : Areas) → IsOver slots start facts → IsAtStage stage (switch_of slots facts k stage) start facts old → new ≡ after_call (due_call (switch_of slots facts k stage)) old
        → Behind new (stage_behind stage)
    goes Closing start old new over at is = (start, over, (at.0, is ∙ ap (after_call (Write (other_area slots.area) 0 (0 ∷ []))) at.1))
    goes SettlingClosed start old new over at is = closed start old new over at.1 is
    goes WritingBody start old new over at is = (start, over, to_out (Holds slots.nodes slots.node) (flush_of (switch_of slots facts k WritingBody)) start facts old new at is)
    goes SettlingBody start old new over at is = (start, over, to_safe (Holds slots.nodes slots.node) (flush_of (switch_of slots facts k SettlingBody)) start facts old new at is)
    goes OpeningGate start old new over at is = (start, over, to_set (Holds slots.nodes slots.node) (flush_of (switch_of slots facts k OpeningGate)) start facts old new at is)
    goes SettlingGate start old new over at is = ended start old new over at is

-- at the end of a switch the facts are held
over_held : {D : Type 0} (slots : Journal D) (facts : List Fact) (end : Images) (both : Areas) → both ≡ restarted end → IsOver slots end facts → EachHolds (Holds slots.nodes slots.node) both facts
over_held slots facts end both stands over = rest_held slots.nodes slots.node facts end both stands over.holds

-- areas over another disk
on_disk : {D : Type 0} (slots : Journal D) (disk : D) (start : Images) (facts : List Fact) → IsOver slots start facts → IsOver (record slots { disk = disk }) start facts
on_disk slots disk start facts over = record { holds = over.holds; active = over.active }

on_disk_too : {D : Type 0} (slots : Journal D) (disk : D) (start : Images) (facts : List Fact) → IsSlotsOver slots start facts → IsSlotsOver (record slots { disk = disk }) start facts
on_disk_too slots disk start facts is = record { over = on_disk slots disk start facts is.over; closes = is.closes }

-- a step from areas that only their disk tells from others
pub goes_from : {D : Type 0} (job : Switch) (old : Journal D) (disk : D) (s : code.Switching) (new : Journal D) → GoesOn job (record old { disk = disk }) s new → GoesOn job old s new
goes_from job old disk (switching.More next) new h = h
goes_from job old disk switching.Done new h = h

-- a step of a switch
module _ {D : Type 0} (areas : D → Areas) (old new : Journal D) (job : Switch) (facts : List Fact) (switches : IsSwitching old job facts (areas old.disk)) where
  own_job : job ≡ switch_of old facts job.next job.stage
  own_job = is_switch old job facts switches.own

  at_stage : IsAtStage job.stage (switch_of old facts job.next job.stage) switches.start facts (areas old.disk)
  at_stage = subst (λ (j : Switch). IsAtStage job.stage j switches.start facts (areas old.disk)) own_job switches.stands

  own_holds : (both : Areas) → EachHolds (Holds old.nodes old.node) both facts → EachHolds (Holds job.nodes job.node) both facts
  own_holds both h = subst (λ (j : Switch). EachHolds (Holds j.nodes j.node) both facts) (sym own_job) h

  pub held_before : EachHolds (Holds job.nodes job.node) (areas old.disk) facts
  held_before = own_holds (areas old.disk) (held old facts job.next job.stage switches.start (areas old.disk) switches.over at_stage)

  pub held_refused : (both : Areas) → (both ≡ areas old.disk) ⊎ IsLeftBy (due_call job) (areas old.disk) both → EachHolds (Holds job.nodes job.node) both facts
  held_refused both left =
      own_holds both
      (held_failed old facts job.next job.stage switches.start (areas old.disk) both switches.over at_stage
      (subst (λ (j : Switch). (both ≡ areas old.disk) ⊎ IsLeftBy (due_call j) (areas old.disk) both) own_job left))

  behind : areas new.disk ≡ after_call (due_call job) (areas old.disk) → Behind old facts job.next (areas new.disk) (stage_behind job.stage)
  behind is =
      goes old facts job.next switches.own.spelt switches.own.short job.stage switches.start (areas old.disk) (areas new.disk) switches.over at_stage
      (is ∙ ap (λ (j : Switch). after_call (due_call j) (areas old.disk)) own_job)

  pub steps : (s : code.Switching) → GoesOn job old s new → areas new.disk ≡ after_call (due_call job) (areas old.disk)
      → EachHolds (Holds job.nodes job.node) (areas new.disk) facts × StandsBehind new s facts (areas new.disk)
  steps (switching.More next) went is =
      let on : Behind old facts job.next (areas new.disk) (Some next.stage) = subst (Behind old facts job.next (areas new.disk)) went.0 (behind is) in
      let here : next ≡ switch_of old facts job.next next.stage = went.1 ∙ ap (λ (j : Switch). record j { stage = next.stage }) own_job in
      let own = switches.own in
      let goes_on : IsSwitching (record old { disk = new.disk }) next facts (areas new.disk) = record {
        start = on.0;
        over = on_disk old new.disk on.0 facts on.1;
        own = record {
          nodes = ap (λ (j : Switch). j.nodes) here;
          node = ap (λ (j : Switch). j.node) here;
          area = ap (λ (j : Switch). j.area) here;
          epoch = ap (λ (j : Switch). j.epoch) here;
          body = ap (λ (j : Switch). j.body) here;
          spelt = own.spelt;
          short = own.short;
        };
        stands = subst (λ (j : Switch). IsAtStage next.stage j on.0 facts (areas new.disk)) (sym here) on.2;
      } in (
        own_holds (areas new.disk) (held old facts job.next next.stage on.0 (areas new.disk) on.1 on.2),
        subst (λ (x : Journal D). IsSwitching x next facts (areas new.disk)) (sym went.2) goes_on,
      )
  steps switching.Done went is =
      let end : Behind old facts job.next (areas new.disk) None = subst (Behind old facts job.next (areas new.disk)) went.0 (behind is) in
      let at_end : IsSlotsOver (record (switched (switch_of old facts job.next SettlingGate) old) { disk = new.disk }) end.0 facts = on_disk_too (switched (switch_of old facts job.next SettlingGate) old) new.disk end.0 facts end.2 in
      let same : new ≡ record (switched (switch_of old facts job.next SettlingGate) old) { disk = new.disk } = went.1 ∙ ap (λ (j : Switch). record (switched j old) { disk = new.disk }) own_job in (
        own_holds (areas new.disk) (over_held (switched (switch_of old facts job.next SettlingGate) old) facts end.0 (areas new.disk) end.1 end.2.over),
        (end.0, end.1, subst (λ (x : Journal D). IsSlotsOver x end.0 facts) (sym same) at_end),
      )

-- the beginning of a switch
pub begins : {D : Type 0} (slots : Journal D) (job : Switch) (start : Images) (facts : List Fact) (both : Areas) → both ≡ restarted start → IsSlotsOver slots start facts → IsSwitchOf slots job facts → job.stage ≡ first_stage slots.closes_other
    → IsSwitching (record slots { busy = true }) job facts both
begins slots job start facts both stands over own stage = record {
  start = start;
  over = record { holds = over.over.holds; active = over.over.active };
  own = record { nodes = own.nodes; node = own.node; area = own.area; epoch = own.epoch; body = own.body; spelt = own.spelt; short = own.short };
  stands = subst (λ (j : Switch). IsAtStage job.stage j start facts both) (sym (is_switch slots job facts own))
      (subst (λ (s : Stage). IsAtStage s (switch_of slots facts job.next s) start facts both) (sym stage) (by slots.closes_other over.closes));
}
  where
    by : (closes : Bool) → closes ≡ must_close (image_of start (other_area slots.area)) → IsAtStage (first_stage closes) (switch_of slots facts job.next (first_stage closes)) start facts both
    by true is = (sym is, stands)
    by false is = let front = open_at_front (image_of start (other_area slots.area)) (sym is) in body_is_due slots facts job.next own.spelt own.short start both over.over stands front.0 front.1

-- what a switch is at its beginning
pub begins_of : {D : Type 0} (slots after : Journal D) (job : Switch) (start : Images) (facts : List Fact) (promise : List Entry) (old new : Areas) → promise ≡ promise_of facts → after ≡ record slots { busy = true } → new ≡ old
    → job ≡ record { nodes = slots.nodes; node = slots.node; area = other_area slots.area; epoch = slots.epoch + 1; next = slots.next; body = frame_bytes (snapshot_bytes (snapshot_of slots promise)); stage = first_stage slots.closes_other }
    → IsLawfulSnapshot (snapshot_of slots promise) → 6 + length (snapshot_bytes (snapshot_of slots promise)) < 2 ^ 32 → old ≡ restarted start → IsSlotsOver slots start facts → IsSwitching after job facts new
begins_of {D} slots after job start facts promise old new same busy still is spelt short stands over =
    let own : IsSwitchOf slots job facts = record {
      nodes = ap (λ (j : Switch). j.nodes) is;
      node = ap (λ (j : Switch). j.node) is;
      area = ap (λ (j : Switch). j.area) is;
      epoch = ap (λ (j : Switch). j.epoch) is;
      body = ap (λ (j : Switch). j.body) is ∙ ap (λ (es : List Entry). frame_bytes (snapshot_bytes (snapshot_of slots es))) same;
      spelt = subst (λ (es : List Entry). IsLawfulSnapshot (snapshot_of slots es)) same spelt;
      short = subst (λ (es : List Entry). length (snapshot_bytes (snapshot_of slots es)) < 2 ^ 32) same (omega (arith, short));
    } in
    subst (λ (x : Journal D). IsSwitching x job facts new) (sym busy) (begins slots job start facts new (still ∙ stands) over own (ap (λ (j : Switch). j.stage) is))
