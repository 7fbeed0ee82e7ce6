-- A node that a crash has left restarts as a report on the events up to the crash, it and the opening tells.
use Rattle.std.proofs.Common.{◌≡◌, ℕ, zero, suc, ◌+◌, ◌/◌, ◌%◌, ◌^◌, ◌<◌, ◌≤◌, List, [], ◌∷◌, ◌++◌, length, Some, refl, ◌∙◌, ap, arith}
use Rattle.std.specs.Prelude.{slice_get, slice_set}
use Rattle.std.specs.List.{AllByRecursion}
use Rattle.rr_model.specs.Laws.{after_steps}
use Rattle.rr_node.specs.Seats.{Seat, crashed}
use Rattle.rr_text.specs.declared.event.Event.{Event}
use Rattle.rr_text.specs.declared.report.ReportLine.{ReportLine}
use Rattle.rr_text.specs.Reported.{Reported}
use Rattle.rr_text.specs.Scheduled.{IsEvent}
use Rattle.rr_text.specs.Words.{IsFill}
use Rattle.rr_sim.specs.Clusters.{Cluster, new_cluster, shown, LeadsSpelt}
use Rattle.rr_sim.specs.Random.{LeadsInMemory, opening_of}
use Rattle.rr_sim.proofs.CleanLaws.{only_one}
use Rattle.rr_sim.proofs.ClusterLaws.{bytes_of, get_here}
use Rattle.rr_sim.proofs.DrawingLemmas.{each_of_both, opening_is_of_events}
use Rattle.rr_sim.proofs.HeadlineLaws.{leads_in_step, leads_to_a_list, is_world_run, agrees}
use Rattle.rr_sim.proofs.NodeLaws.{node_laws}
use Rattle.rr_sim.proofs.RealTimeLaws.{keeps_real_time}
use Rattle.rr_sim.specs.declared.ending.Ending.{Ending}
use Rattle.rr_sim.specs.declared.ending.Ending.TheVariants.{Open, Closed, Cut, Kept, Drawn}
use Rattle.rr_sim.specs.Endings.{cut_of, fill_of, crash_of, crash_and_opening}
use Rattle.rr_sim.specs.Openings.{IsInSome, Opens}
use Rattle.rr_sim.specs.Sweeps.{IsRestartBehind}
use Rattle.rr_sim.proofs.InCluster.{Goes, goes_on, crash_in, opening_in}

-- the cuts and fills of a sweep are such as a schedule may have
cut_fits : (ending : Ending) (w : ℕ) → cut_of ending w < 2 ^ 32
cut_fits Open w = omega arith
cut_fits Closed w = omega arith
cut_fits Cut w = omega arith
cut_fits Kept w = omega arith
cut_fits Drawn w = let small : w / 256 % 1024 < 1024 = omega arith in omega (arith, small)

fill_fits : (ending : Ending) (w : ℕ) → IsFill (fill_of ending w)
fill_fits Open w = (omega arith, tt)
fill_fits Closed w = (omega arith, tt)
fill_fits Cut w = tt
fill_fits Kept w = tt
fill_fits Drawn w = (omega arith, tt)

tail_of_events : (m p w : ℕ) (ending : Ending) → p < m → AllByRecursion (IsEvent m) (crash_and_opening p ending w)
tail_of_events m p w ending below = (record { node = below; fields = (cut_fits ending w, cut_fits ending w, fill_fits ending w) }, opening_is_of_events m p below)

has_one : {X : Type 0} (xs : List X) (k : ℕ) → k < length xs → (x : X) × (slice_get xs k ≡ Some x)
has_one [] k below = absurd (omega (arith, below))
has_one (x ∷ xs) zero below = (x, refl)
has_one (x ∷ xs) (suc k) below = has_one xs k (omega (arith, below))

module _ (n m : ℕ) (few : n ≤ 7) (events : List Event) (c : Cluster) (each : AllByRecursion (IsEvent m) events) (leads : LeadsSpelt 2 events (new_cluster n) c) where
  -- each node has a seat
  pub seat_there : (p : ℕ) → p < n → (seat : Seat) × (slice_get c.seats p ≡ Some seat)
  seat_there p below = let in_step = leads_in_step n m (node_laws n few) events c each leads in has_one c.seats p (omega (arith, below, in_step.1.alike.count))

  -- the node is in step with a world, also behind a crash
  pub stands : (p : ℕ) (seat : Seat) → slice_get c.seats p ≡ Some seat → IsInSome n p seat
  stands p seat here =
      let in_step = leads_in_step n m (node_laws n few) events c each leads in
      record { few = few; world = in_step.0; in_step = in_step.1.alike.nodes p seat here }

  pub restart_behind : (memory : LeadsInMemory 2 events (new_cluster n) c) (p w : ℕ) (ending : Ending) (seat : Seat) (told : ReportLine) → p < m → slice_get c.seats p ≡ Some seat → Opens p (crashed (cut_of ending w) (cut_of ending w) (fill_of ending w) seat) told
      → IsRestartBehind n p (events ++ crash_and_opening p ending w) told
  restart_behind memory p w ending seat told below here opens =
      let left : Seat = crashed (cut_of ending w) (cut_of ending w) (fill_of ending w) seat in
      let at = 2 + length events in
      let down = crash_in p at (cut_of ending w) (cut_of ending w) (fill_of ending w) c seat here in
      let crashed_cluster : Cluster = record c { seats = slice_set c.seats p left } in
      let up = opening_in p (at + 1) crashed_cluster left told (get_here c.seats p seat left here) opens in
      let end : Cluster = up.0 in
      let tail : Goes at (crash_and_opening p ending w) c end = goes_on at (crash_of p (cut_of ending w) (cut_of ending w) (fill_of ending w) ∷ []) (opening_of p) c crashed_cluster end down up.1 in
      let front : Goes 2 events (new_cluster n) c = record { spelt = leads; memory = memory } in
      let all : Goes 2 (events ++ crash_and_opening p ending w) (new_cluster n) end = goes_on 2 events (crash_and_opening p ending w) (new_cluster n) c end front tail in
      let events_of : AllByRecursion (IsEvent m) (events ++ crash_and_opening p ending w) = each_of_both (IsEvent m) events (crash_and_opening p ending w) each (tail_of_events m p w ending below) in
      let list = leads_to_a_list n m (node_laws n few) (events ++ crash_and_opening p ending w) end events_of all.spelt in
      let report : Reported = record { lines = end.lines; decided = list.0 } in
      let world = is_world_run n m (node_laws n few) (events ++ crash_and_opening p ending w) end report events_of all.spelt refl list.1 in
      let one = agrees n (events ++ crash_and_opening p ending w) report world in
      record {
        report = report;
        earlier = c.lines;
        last = up.2;
        facts = opens.facts;
        decided = opens.decided;
        names = shown opens.names;
        is = opens.tells;
        at_the_end = end;
        in_memory = all.memory;
        lines = refl;
        world = world;
        one_list = one;
        real_time = keeps_real_time n (events ++ crash_and_opening p ending w) report world;
        clean = only_one n (events ++ crash_and_opening p ending w) report world;
        keeps_what_it_acknowledged = one.nothing_acknowledged_is_lost c.lines [] p opens.facts opens.decided (shown opens.names) (up.2 ∙ ap (λ (l : ReportLine). c.lines ++ l ∷ []) opens.tells);
      }

-- a node that a crash has left is in step with a world
pub crash_stands : (n p w : ℕ) (ending : Ending) (seat : Seat) → IsInSome n p seat → IsInSome n p (crashed (cut_of ending w) (cut_of ending w) (fill_of ending w) seat)
crash_stands n p w ending seat s =
    let took = (node_laws n s.few).crashes p (cut_of ending w) (cut_of ending w) (fill_of ending w) seat s.world (bytes_of (fill_of ending w) (fill_fits ending w)) s.in_step in
    record { few = s.few; world = after_steps s.world took.steps; in_step = took.in_step }
