-- The device calls of an opening, in the world: the node is down until the opening ends, and then it restarts.
use Rattle.std.proofs.Common.{◌≡◌, inl, inr, ℕ, ◌-◌, ◌^◌, ◌<◌, ◌≤◌, Bool, true, false, List, [], ◌∷◌, ◌++◌, length, take, append-nil, Some, Ok, Err, refl, sym, ap, subst, ◌∙◌, arith, if◌then◌else◌}
use Rattle.std.proofs.lemmas.List.{length-map}
use Rattle.rr_types.specs.declared.fact.Fact.{Fact}
use Rattle.rr_types.specs.declared.refusal.Refusal.TheVariants as because
use Rattle.rr_types.specs.Promises.{promise_of}
use Rattle.rr_model.specs.World.{World, Restart, nothing_heard}
use Rattle.rr_model.specs.Laws.{after_steps}
use Rattle.rr_model.specs.NodeReached as reached
use Rattle.rr_model.specs.NodeReached.{opened_over}
use Rattle.rr_model.specs.NodeInWorld.{IsInWorld}
use Rattle.rr_model.proofs.NodeRestarts.{opened_marked, restarts_in_world}
use Rattle.rr_model.proofs.NodeSteady.{started_stays}
use Rattle.rr_disk.specs.declared.area.Area.{Area}
use Rattle.rr_disk.specs.declared.area.Area.TheVariants.{First, Second}
use Rattle.rr_disk.specs.declared.cell.Cell.{Cell}
use Rattle.rr_disk.specs.Areas.{Areas, extent_of, read_of, synced}
use Rattle.rr_types.specs.Counts.{counted}
use Rattle.rr_disk.specs.Crash.{Images, restarted}
use Rattle.rr_frame.specs.declared.version.Version.TheVariants.{One}
use Rattle.rr_frame.specs.SnapshotFormat.{snapshot_bytes, IsLawfulSnapshot}
use Rattle.rr_journal.specs.Calls.{Call, Sync, after_call, must_close, rewrite_calls}
use Rattle.rr_journal.specs.declared.stage.Stage as slots
use Rattle.rr_journal.specs.declared.stage.Stage.TheVariants as step
use Rattle.rr_journal.specs.Image.{Content, Found, Unformatted, Broken, Active, Outdated, found}
use Rattle.rr_journal.specs.Held.{StandsFor, Holds}
use Rattle.rr_journal.specs.Journals.{IsOver}
use Rattle.rr_journal.specs.Moments.{image_of}
use Rattle.rr_journal.specs.Openings as opening
use Rattle.rr_journal.specs.Openings.{After, Goes, Opens, Stops, bytes_in, snapshot_with, formatted, migrate_calls, after_found, end_by}
use Rattle.rr_journal.specs.Migration.{migrated, may_migrate}
use Rattle.rr_journal.specs.OpeningTable.{contents, Rests}
use Rattle.rr_journal.specs.OtherAreas.{other_area}
use Rattle.rr_journal.specs.Rewrites.{writes_anew, area_anew, content_anew, flush_anew, IsInStage, IsRewriting}
use Rattle.rr_journal.specs.Stages.{call_at, calls_from, stage_behind}
use Rattle.rr_journal.proofs.OpeningLaws.{read_at_rest}
use Rattle.rr_journal.proofs.PromisedLaws.{found_promised, promised_snapshot}
use Rattle.rr_journal.proofs.RewriteLaws.{Behind, goes_rewriting}
use Rattle.rr_types.specs.declared.event.NodeEvent.TheVariants as at
use Rattle.rr_node.specs.declared.event.Outcome.TheVariants.{Quiet}
use Rattle.rr_node.specs.Seats.{Journaled, Doing, Stopped, Opening, called, serves, opens_on, open_on}
use Rattle.rr_node.specs.Worlds.{AreInOrder, EachHoldsSome, IsDown, WritesAnew, OpensSome, IsOpening, journal_at, InStep}
use Rattle.rr_node.specs.Runs.{MayBe, GoesOn, IsAnewSpelt, IsSpelt}
use Rattle.rr_node.proofs.InOrder.{own_image, synced_in_order, call_in_order}
use Rattle.rr_node.proofs.Going.{no_member, goes, stays}
use Rattle.rr_node.proofs.Falling.{seated, stopped, down_falls, switch_small, anew_body}
use Rattle.rr_node.proofs.Holding.{seat_holds}
use Rattle.rr_node.proofs.ServingSteps.{nothing}

-- the snapshot that an opening writes has a spelling, where it may be one of this node
anew_lawful : (n p : ℕ) (start : Images) (f : Found) (calls : List Call) → p < n → n ≤ 7 → found n p start.of_first start.of_second ≡ f → writes_anew f ≡ true → IsAnewSpelt (opening.Rewriting f calls) → IsLawfulSnapshot (snapshot_with n p (content_anew f))
anew_lawful n p start Unformatted calls exists few is due spelt = spelt n p few (promised_snapshot n p 0 formatted exists (record { empty = λ none. refl; stands = refl }))
anew_lawful n p start (Broken area offset) calls exists few is due spelt = absurd cc
anew_lawful n p start (Active area c) calls exists few is due spelt = absurd cc
anew_lawful n p start (Outdated area c) calls exists few is due spelt = spelt n p few (promised_snapshot n p c.epoch c exists (found_promised One n p start.of_first start.of_second area c is))

-- an opening that writes an area anew ends with that area
pub end_anew : (f : Found) → writes_anew f ≡ true → end_by f ≡ Opens (area_anew f) (content_anew f)
end_anew Unformatted due = refl
end_anew (Broken area offset) due = absurd cc
end_anew (Active area c) due = absurd cc
end_anew (Outdated area c) due = by (may_migrate c) due
  where
    by : (may : Bool) → may ≡ true → (if may then Opens (other_area area) (migrated c) else Stops because.TooLarge) ≡ Opens (other_area area) (migrated c)
    by true e = refl
    by false e = absurd cc

-- a device call of an opening that ends with this content of its facts: the node restarts
module _ (n p k : ℕ) (w : World) (areas : Areas) (doing : Doing) (exists : p < n) (order : AreInOrder areas) (down : IsDown p w) (count : ℕ) (there : count ≤ length (w.staged p))
    (start : Images) (stands : areas ≡ restarted start) (holds : Holds n p start (w.kept p ++ take count (w.staged p))) where
  restarts_at : (area : Area) (epoch gate : ℕ) → (let c : Content = record { epoch = epoch; promise = promise_of (w.kept p ++ take count (w.staged p)); next = length (w.kept p ++ take count (w.staged p)); gate = gate } in
      found n p start.of_first start.of_second ≡ Active area c → GoesOn n p (MayBe p at.Device) w (serves area c (seated n p k areas doing)).0 (serves area c (seated n p k areas doing)).1)
  restarts_at area epoch gate is =
      let came = restarts_in_world n p (w.kept p) (w.staged p) count w exists (record { down = down.down; keeps = refl; stages = refl; heard = down.heard }) there holds.fit in
      let v : World = after_steps w (Restart p count ∷ []) in
      let now : IsInWorld false n p (w.kept p ++ take count (w.staged p)) nothing_heard (opened_over n p (w.kept p ++ take count (w.staged p))) (after_steps w (Restart p count ∷ [])) = came.1 in
      let kept : v.kept p ≡ w.kept p ++ take count (w.staged p) = now.kept ∙ append-nil _ ∙ opened_marked n p (w.kept p ++ take count (w.staged p)) in
      let journal : Journaled = record { area = area; gate = gate; epoch = epoch } in
      let c : Content = record { epoch = epoch; promise = promise_of (w.kept p ++ take count (w.staged p)); next = length (w.kept p ++ take count (w.staged p)); gate = gate } in
      let over : IsOver (journal_at n p journal (length (w.kept p ++ take count (w.staged p)))) start (w.kept p ++ take count (w.staged p)) = record { holds = holds; active = is } in
      goes n p (MayBe p at.Device) w (serves area c (seated n p k areas doing)).0 (serves area c (seated n p k areas doing)).1 (Restart p count ∷ []) tt (inr (inr (count, refl))) came.0 (refl, tt)
      (record {
        exists = exists;
        nodes = refl;
        node = refl;
        in_order = order;
        doing = record {
          facts = w.kept p ++ take count (w.staged p);
          heard = nothing_heard;
          reached = reached.Opened (w.kept p ++ take count (w.staged p)) holds.fit;
          in_world = now;
          start = start;
          over = subst (λ (fs : List Fact). IsOver (journal_at n p journal (length fs)) start fs) (sym kept) over;
          flushes = ((started_stays n p (promise_of (w.kept p ++ take count (w.staged p))) (length (w.kept p ++ take count (w.staged p)))).running, stands);
        };
      })
      (sym (append-nil w.wire)) came.2 (λ m held. absurd (no_member m held))

  pub restarts : (area : Area) (c : Content) → found n p start.of_first start.of_second ≡ Active area c → GoesOn n p (MayBe p at.Device) w (serves area c (seated n p k areas doing)).0 (serves area c (seated n p k areas doing)).1
  restarts area c is =
      let own : StandsFor (Active area c) (w.kept p ++ take count (w.staged p)) = subst (λ (f : Found). StandsFor f (w.kept p ++ take count (w.staged p))) is holds.stands in
      let d : Content = record { epoch = c.epoch; promise = promise_of (w.kept p ++ take count (w.staged p)); next = length (w.kept p ++ take count (w.staged p)); gate = c.gate } in
      let same : d ≡ c = (λ i. record { epoch = c.epoch; promise = sym own.0 i; next = sym own.1 i; gate = c.gate }) in
      subst (λ (x : Content). GoesOn n p (MayBe p at.Device) w (serves area x (seated n p k areas doing)).0 (serves area x (seated n p k areas doing)).1) same (restarts_at area c.epoch c.gate (is ∙ ap (Active area) (sym same)))

module _ (n p k : ℕ) (few : n ≤ 7) (w : World) (areas : Areas) where
  -- an opening goes on quietly to a phase of its facts
  moves : (new : Areas) (phase : opening.Phase) → p < n → AreInOrder new → IsOpening n p w new phase → GoesOn n p (MayBe p at.Device) w (Ok Quiet) (seated n p (counted k) new (Opening phase))
  moves new phase exists order opens =
      stays n p (MayBe p at.Device) w (Ok Quiet) (seated n p (counted k) new (Opening phase)) (inl (inl refl)) (record { exists = exists; nodes = refl; node = refl; in_order = order; doing = opens }) (record { unsent = refl; untold = refl })

  -- behind its sync a disk rests with the facts of its bytes
  rests_synced : AreInOrder areas → EachHoldsSome n p w areas → OpensSome n p w (synced areas) opening.ReadingFirst
  rests_synced order each =
      let some = each (contents areas) (own_image areas order) in
      record {
        count = some.count;
        there = some.there;
        opens = record {
          start = contents areas;
          stands = refl;
          first_fits = omega (arith, order.0.small, length-map areas.first.cells (λ (cell : Cell). cell.byte));
          second_fits = omega (arith, order.1.small, length-map areas.second.cells (λ (cell : Cell). cell.byte));
          holds = some.holds;
        };
      }

  -- what reading both areas gives
  read_first : (facts : List Fact) (rests : Rests n p facts areas) → read_of 0 (2 ^ 64 - 1) (extent_of areas First) ≡ rests.start.of_first
  read_first facts rests = ap (λ (b : Areas). read_of 0 (2 ^ 64 - 1) (extent_of b First)) rests.stands ∙ read_at_rest rests.start.of_first rests.first_fits

  read_second : (facts : List Fact) (rests : Rests n p facts areas) → read_of 0 (2 ^ 64 - 1) (extent_of areas Second) ≡ rests.start.of_second
  read_second facts rests = ap (λ (b : Areas). read_of 0 (2 ^ 64 - 1) (extent_of b Second)) rests.stands ∙ read_at_rest rests.start.of_second rests.second_fits

  -- behind the reads an area is written anew, its first gate closed where it must be
  begins_anew : (facts : List Fact) (rests : Rests n p facts areas) (f : Found) (other : List ℕ) → found n p rests.start.of_first rests.start.of_second ≡ f → writes_anew f ≡ true → IsLawfulSnapshot (snapshot_with n p (content_anew f))
      → other ≡ image_of rests.start (area_anew f) → WritesAnew n p facts areas f (rewrite_calls (area_anew f) (must_close other) (snapshot_bytes (snapshot_with n p (content_anew f))))
  begins_anew facts rests f other is due spelt same = by (must_close other) refl
    where
      by : (b : Bool) → must_close other ≡ b → WritesAnew n p facts areas f (rewrite_calls (area_anew f) b (snapshot_bytes (snapshot_with n p (content_anew f))))
      by true shuts = record {
        stage = step.Closing;
        calls_left = refl;
        rewrites = record { start = rests.start; due = due; finds = is; body = refl; spelt = spelt; stands = (ap must_close (sym same) ∙ shuts, rests.stands) };
        holds = rests.holds;
      }
      by false shuts = record {
        stage = step.WritingBody;
        calls_left = refl;
        rewrites = record { start = rests.start; due = due; finds = is; body = refl; spelt = spelt; stands = (ap must_close (sym same) ∙ shuts, rests.stands) };
        holds = rests.holds;
      }

  -- the bytes of one area that was read
  bytes_are : (facts : List Fact) (rests : Rests n p facts areas) (first second : List ℕ) → first ≡ rests.start.of_first → second ≡ rests.start.of_second → (area : Area) → bytes_in area first second ≡ image_of rests.start area
  bytes_are facts rests first second one two First = one
  bytes_are facts rests first second one two Second = two

  -- what both reads found
  finds : (first : List ℕ) (some : OpensSome n p w areas (opening.ReadingSecond first)) → p < n → AreInOrder areas → IsDown p w → EachHoldsSome n p w areas → (f : Found) → found n p first (read_of 0 (2 ^ 64 - 1) (extent_of areas Second)) ≡ f
      → (let x = opens_on (seated n p (counted k) areas (Opening (opening.ReadingSecond first))) (after_found n p first (read_of 0 (2 ^ 64 - 1) (extent_of areas Second)) f) in IsSpelt x.1.doing → GoesOn n p (MayBe p at.Device) w x.0 x.1)
  finds first some exists order down each f is = by f (sym here ∙ is)
    where
      two : read_of 0 (2 ^ 64 - 1) (extent_of areas Second) ≡ some.opens.0.start.of_second
      two = read_second (w.kept p ++ take some.count (w.staged p)) some.opens.0

      here : found n p first (read_of 0 (2 ^ 64 - 1) (extent_of areas Second)) ≡ found n p some.opens.0.start.of_first some.opens.0.start.of_second
      here = ap (λ (b : List ℕ). found n p b (read_of 0 (2 ^ 64 - 1) (extent_of areas Second))) some.opens.1 ∙ ap (λ (b : List ℕ). found n p some.opens.0.start.of_first b) two

      anew : (f : Found) (other : List ℕ) → found n p some.opens.0.start.of_first some.opens.0.start.of_second ≡ f → writes_anew f ≡ true → other ≡ image_of some.opens.0.start (area_anew f)
          → IsAnewSpelt (opening.Rewriting f (rewrite_calls (area_anew f) (must_close other) (snapshot_bytes (snapshot_with n p (content_anew f)))))
          → GoesOn n p (MayBe p at.Device) w (Ok Quiet) (seated n p (counted k) areas (Opening (opening.Rewriting f (rewrite_calls (area_anew f) (must_close other) (snapshot_bytes (snapshot_with n p (content_anew f)))))))
      anew f other e due same spelt =
          let lawful = anew_lawful n p some.opens.0.start f (rewrite_calls (area_anew f) (must_close other) (snapshot_bytes (snapshot_with n p (content_anew f)))) exists few e due spelt in
          moves areas (opening.Rewriting f (rewrite_calls (area_anew f) (must_close other) (snapshot_bytes (snapshot_with n p (content_anew f))))) exists order
          (down, record { count = some.count; there = some.there; opens = begins_anew (w.kept p ++ take some.count (w.staged p)) some.opens.0 f other e due lawful same })

      migrates : (area : Area) (c : Content) → found n p some.opens.0.start.of_first some.opens.0.start.of_second ≡ Outdated area c → (may : Bool) → may_migrate c ≡ may
          → (let x = opens_on (seated n p (counted k) areas (Opening (opening.ReadingSecond first))) (if may then Goes (opening.Rewriting (Outdated area c) (migrate_calls n p area c (bytes_in (other_area area) first (read_of 0 (2 ^ 64 - 1) (extent_of areas Second))))) else Stops because.TooLarge) in
          IsSpelt x.1.doing → GoesOn n p (MayBe p at.Device) w x.0 x.1)
      migrates area c e true may =
          anew (Outdated area c) (bytes_in (other_area area) first (read_of 0 (2 ^ 64 - 1) (extent_of areas Second))) e may
          (bytes_are (w.kept p ++ take some.count (w.staged p)) some.opens.0 first (read_of 0 (2 ^ 64 - 1) (extent_of areas Second)) some.opens.1 two (other_area area))
      migrates area c e false may = λ spelt.
          down_falls n p n p (counted k) (MayBe p at.Device) w (Err because.TooLarge) areas Stopped (nothing p at.Device) stopped exists refl refl down order each (record { unsent = refl; untold = refl })

      by : (f : Found) → found n p some.opens.0.start.of_first some.opens.0.start.of_second ≡ f
          → (let x = opens_on (seated n p (counted k) areas (Opening (opening.ReadingSecond first))) (after_found n p first (read_of 0 (2 ^ 64 - 1) (extent_of areas Second)) f) in IsSpelt x.1.doing → GoesOn n p (MayBe p at.Device) w x.0 x.1)
      by Unformatted e = anew Unformatted first e refl some.opens.1
      by (Broken area offset) e = absurd (subst (λ (f : Found). StandsFor f (w.kept p ++ take some.count (w.staged p))) e some.opens.0.holds.stands)
      by (Active area c) e = λ spelt. restarts n p (counted k) w areas (Opening (opening.ReadingSecond first)) exists order down some.count some.there some.opens.0.start some.opens.0.stands some.opens.0.holds area c e
      by (Outdated area c) e = migrates area c e (may_migrate c) refl

  -- a stage in which an area is written anew goes on to the next, or the opening ends
  writes_on : (count : ℕ) → count ≤ length (w.staged p) → p < n → AreInOrder areas → IsDown p w → (f : Found) (stage : slots.Stage)
      → (r : IsRewriting n p (record { found = f; body = (flush_anew n p f).body; stage = stage }) areas) → Holds n p r.start (w.kept p ++ take count (w.staged p))
      → (let x = open_on (seated n p k areas (Opening (opening.Rewriting f (calls_from (area_anew f) (flush_anew n p f).body stage)))) (opening.Rewriting f (calls_from (area_anew f) (flush_anew n p f).body stage)) in GoesOn n p (MayBe p at.Device) w x.0 x.1)
  writes_on count there exists order down f stage r holds = by stage r.stands
    where
      ordered : (stage : slots.Stage) → AreInOrder (after_call (call_at (area_anew f) (flush_anew n p f).body stage) areas)
      ordered stage = call_in_order (call_at (area_anew f) (flush_anew n p f).body stage) areas (switch_small (area_anew f) (flush_anew n p f).body stage (anew_body n p f r.due r.spelt)) order

      to : (next : slots.Stage) (new : Areas) → AreInOrder new → Behind n p f r.due r.start r.finds r.spelt new (Some next)
          → GoesOn n p (MayBe p at.Device) w (Ok Quiet) (seated n p (counted k) new (Opening (opening.Rewriting f (calls_from (area_anew f) (flush_anew n p f).body next))))
      to next new kept b =
          moves new (opening.Rewriting f (calls_from (area_anew f) (flush_anew n p f).body next)) exists kept (
            down,
            record {
              count = count;
              there = there;
              opens = record {
                stage = next;
                calls_left = refl;
                rewrites = record { start = b.0; due = r.due; finds = b.1; body = refl; spelt = r.spelt; stands = b.2 };
                holds = b.3 (w.kept p ++ take count (w.staged p)) holds;
              };
            },
          )

      leads : (stage : slots.Stage) → IsInStage stage (flush_anew n p f) r.start areas → Behind n p f r.due r.start r.finds r.spelt (after_call (call_at (area_anew f) (flush_anew n p f).body stage) areas) (stage_behind stage)
      leads stage stands = goes_rewriting n p f r.due r.start r.finds r.spelt stage areas (after_call (call_at (area_anew f) (flush_anew n p f).body stage) areas) stands refl

      by : (stage : slots.Stage) → IsInStage stage (flush_anew n p f) r.start areas
          → (let x = open_on (seated n p k areas (Opening (opening.Rewriting f (calls_from (area_anew f) (flush_anew n p f).body stage)))) (opening.Rewriting f (calls_from (area_anew f) (flush_anew n p f).body stage)) in GoesOn n p (MayBe p at.Device) w x.0 x.1)
      by step.Closing stands = to step.SettlingClosed (after_call (call_at (area_anew f) (flush_anew n p f).body step.Closing) areas) (ordered step.Closing) (leads step.Closing stands)
      by step.SettlingClosed stands = to step.WritingBody (synced areas) (ordered step.SettlingClosed) (leads step.SettlingClosed stands)
      by step.WritingBody stands = to step.SettlingBody (after_call (call_at (area_anew f) (flush_anew n p f).body step.WritingBody) areas) (ordered step.WritingBody) (leads step.WritingBody stands)
      by step.SettlingBody stands = to step.OpeningGate (synced areas) (ordered step.SettlingBody) (leads step.SettlingBody stands)
      by step.OpeningGate stands = to step.SettlingGate (after_call (call_at (area_anew f) (flush_anew n p f).body step.OpeningGate) areas) (ordered step.OpeningGate) (leads step.OpeningGate stands)
      by step.SettlingGate stands =
          let end = leads step.SettlingGate stands in
          subst (λ (a : After). (let x = opens_on (called (synced areas) (seated n p k areas (Opening (opening.Rewriting f (Sync ∷ []))))) a in GoesOn n p (MayBe p at.Device) w x.0 x.1)) (sym (end_anew f r.due))
          (restarts n p (counted k) w (synced areas) (Opening (opening.Rewriting f (Sync ∷ []))) exists (ordered step.SettlingGate) down count there end.0 end.1 (end.3 (w.kept p ++ take count (w.staged p)) holds) (area_anew f) (content_anew f) end.2)

  -- a device call of an opening
  pub opens_in_step : (phase : opening.Phase) → InStep n p (seated n p k areas (Opening phase)) w → (let x = open_on (seated n p k areas (Opening phase)) phase in IsSpelt x.1.doing → GoesOn n p (MayBe p at.Device) w x.0 x.1)
  opens_in_step opening.Settling h = λ spelt. moves (synced areas) opening.ReadingFirst h.exists (synced_in_order areas h.in_order) (h.doing.0, rests_synced h.in_order h.doing.1)
  opens_in_step opening.ReadingFirst h = λ spelt.
      let some = h.doing.1 in
      moves areas (opening.ReadingSecond (read_of 0 (2 ^ 64 - 1) (extent_of areas First))) h.exists h.in_order
      (h.doing.0, record { count = some.count; there = some.there; opens = (some.opens, read_first (w.kept p ++ take some.count (w.staged p)) some.opens) })
  opens_in_step (opening.ReadingSecond first) h =
      finds first h.doing.1 h.exists h.in_order h.doing.0 (seat_holds n p (seated n p k areas (Opening (opening.ReadingSecond first))) w h) (found n p first (read_of 0 (2 ^ 64 - 1) (extent_of areas Second))) refl
  opens_in_step (opening.Rewriting f calls) h = λ spelt.
      let some = h.doing.1 in
      subst (λ (cs : List Call). (let x = open_on (seated n p k areas (Opening (opening.Rewriting f cs))) (opening.Rewriting f cs) in GoesOn n p (MayBe p at.Device) w x.0 x.1)) (sym some.opens.calls_left)
      (writes_on some.count some.there h.exists h.in_order h.doing.0 f some.opens.stage some.opens.rewrites some.opens.holds)
