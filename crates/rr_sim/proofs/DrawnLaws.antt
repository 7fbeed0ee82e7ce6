-- A random schedule that is told as it is drawn is told with the report of its run.
use Rattle.std.proofs.Common.{◌≡◌, inl, inr, ℕ, zero, suc, ◌+◌, ◌*◌, ◌≤◌, List, [], ◌∷◌, ◌++◌, length, refl, ap, sym, ◌∙◌, subst, arith}
use Rattle.std.specs.Prelude.{true, false, codes, decimal}
use Rattle.std.specs.List.{AllByRecursion, flat_map}
use Rattle.std.proofs.lemmas.List.{append_assoc, append-nil}
use Rattle.rand_pcg.specs.Lcg.{Lcg}
use Rattle.rr_types.specs.declared.command.Command.{Command}
use Rattle.rr_model.specs.Sound.{IsDecidedList}
use Rattle.rr_text.specs.declared.event.Event.{Event}
use Rattle.rr_text.specs.declared.report.ReportLine.{ReportLine}
use Rattle.rr_text.specs.Lines.{nodes_line}
use Rattle.rr_text.specs.Reported.{Reported}
use Rattle.rr_text.specs.ReportTexts.{line, decided_lines, report_text}
use Rattle.rr_text.specs.Scheduled.{Scheduled, IsEvent}
use Rattle.rr_text.specs.ScheduleTexts.{event_line}
use Rattle.rr_sim.specs.Clusters.{Cluster, new_cluster, Steps, LeadsSpelt, IsSpeltBehind}
use Rattle.rr_sim.specs.Random.{openings, opened, seeded, drawn, behind, StepsInMemory, AreDrawn}
use Rattle.rr_sim.specs.Told.{told, DrawsAll, IsRandomRun}
use Rattle.rr_sim.proofs.CleanLaws.{only_one}
use Rattle.rr_sim.proofs.DrawingLemmas.{each_of_both, openings_count, openings_from}
use Rattle.rr_sim.proofs.HeadlineLaws.{is_world_run, agrees}
use Rattle.rr_sim.proofs.NodeLaws.{node_laws}
use Rattle.rr_sim.proofs.RealTimeLaws.{keeps_real_time}
use Rattle.rr_sim.proofs.ToldLaws.{behind_lines, stepped, whole, spelt_behind, told_append, lines_push}

in_memory_is_either : (at : ℕ) (e : Event) (old new : Cluster) → StepsInMemory at e old new → Steps at e old new
in_memory_is_either at e old new (inl is) = inl is
in_memory_is_either at e old new (inr (fails, is)) = inr is

in_memory_behind : (at : ℕ) (e : Event) (ls : List ReportLine) (old new : Cluster) → StepsInMemory at e old new → StepsInMemory at e (behind_lines ls old) (behind_lines ls new)
in_memory_behind at e ls old new (inl is) = inl (ap (behind_lines ls) is ∙ sym (stepped at false e ls old))
in_memory_behind at e ls old new (inr (fails, is)) = inr (fails, ap (behind_lines ls) is ∙ sym (stepped at true e ls old))

-- the events drawn so far lead to a cluster, whose lines the report has and the cluster that is kept hasn't
pub record DrawnSoFar (n steps : ℕ) (g : Lcg) (before : List ℕ) (count number : ℕ) (h : Lcg) (kept : Cluster) (schedule report : List ℕ) : Type 0 where
  pub events : List Event
  pub cluster : Cluster
  pub each : AllByRecursion (IsEvent n) events
  pub counted : number ≡ 2 + 10 * n + count
  pub drawn_on : (left : ℕ) (rest : List Event) → left + count ≡ steps → AreDrawn n number left h cluster rest → AreDrawn n (2 + 10 * n) steps g (opened n) (events ++ rest)
  pub leads_on : (more : List Event) (end : Cluster) → LeadsSpelt number more cluster end → LeadsSpelt (2 + 10 * n) (events ++ more) (opened n) end
  pub is_kept : kept ≡ record cluster { lines = [] }
  pub is_printed : schedule ≡ before ++ flat_map event_line events
  pub is_told : report ≡ told cluster.lines

pub drawn_none : (n steps : ℕ) (g : Lcg) (before : List ℕ) (kept : Cluster) (report : List ℕ) → kept ≡ record (opened n) { lines = [] } → report ≡ told (opened n).lines → DrawnSoFar n steps g before 0 (2 + 10 * n) g kept before report
drawn_none n steps g before kept report is texts = record {
  events = [];
  cluster = opened n;
  each = tt;
  counted = omega arith;
  drawn_on = λ left rest all are. subst (λ k. AreDrawn n (2 + 10 * n) k g (opened n) rest) (omega (all, arith)) are;
  leads_on = λ more end leads. leads;
  is_kept = is;
  is_printed = sym (append-nil before);
  is_told = texts;
}

pub drawn_at : (n steps : ℕ) (g : Lcg) (before : List ℕ) (number : ℕ) (kept : Cluster) (report : List ℕ) → number ≡ 2 + 10 * n → kept ≡ record (opened n) { lines = [] } → report ≡ told (opened n).lines → DrawnSoFar n steps g before 0 number g kept before report
drawn_at n steps g before number kept report same is texts = subst (λ k. DrawnSoFar n steps g before 0 k g kept before report) (sym same) (drawn_none n steps g before kept report is texts)

module _ (n steps : ℕ) (g : Lcg) (before : List ℕ) (count number : ℕ) (h : Lcg) (kept : Cluster) (schedule report : List ℕ) (d : DrawnSoFar n steps g before count number h kept schedule report) (next : Cluster) where
  same : behind_lines d.cluster.lines kept ≡ d.cluster
  same = whole d.cluster kept d.is_kept

  wire_is : kept.wire ≡ d.cluster.wire
  wire_is = ap (λ (c : Cluster). c.wire) d.is_kept

  pub drawn_more : (e : Event) (after : Lcg) (empty : Cluster) (longer grown : List ℕ) (next_number : ℕ)
      → e ≡ drawn n kept.wire h → IsEvent n e → after ≡ behind (behind h)
      → StepsInMemory number e kept next → IsSpeltBehind e kept next
      → empty ≡ record next { lines = [] } → longer ≡ schedule ++ event_line e → grown ≡ report ++ told next.lines → next_number ≡ number + 1
      → DrawnSoFar n steps g before (count + 1) next_number after empty longer grown
  drawn_more e after empty longer grown next_number is valid words led spelt emptied printed grew counts =
      let on = behind_lines d.cluster.lines next in
      let led_on : StepsInMemory number e d.cluster on = subst (λ (c : Cluster). StepsInMemory number e c on) same (in_memory_behind number e d.cluster.lines kept next led) in
      let spelt_on : IsSpeltBehind e d.cluster on = spelt_behind e d.cluster.lines kept next d.cluster same spelt in
      let is_on : e ≡ drawn n d.cluster.wire h = is ∙ ap (λ ms. drawn n ms h) wire_is in
      record {
        events = d.events ++ e ∷ [];
        cluster = on;
        each = each_of_both (IsEvent n) d.events (e ∷ []) d.each (valid, tt);
        counted = omega (arith, counts, d.counted);
        drawn_on = λ left rest all are.
            subst (λ (es : List Event). AreDrawn n (2 + 10 * n) steps g (opened n) es) (sym (append_assoc d.events (e ∷ []) rest))
            (d.drawn_on (suc left) (e ∷ rest) (omega (all, arith)) (drawn_first left rest e after on next_number is_on words counts led_on are));
        leads_on = λ more end leads.
            subst (λ (es : List Event). LeadsSpelt (2 + 10 * n) es (opened n) end) (sym (append_assoc d.events (e ∷ []) more))
            (d.leads_on (e ∷ more) end (on, in_memory_is_either number e d.cluster on led_on, spelt_on, subst (λ (k : ℕ). LeadsSpelt k more on end) counts leads));
        is_kept = emptied;
        is_printed = printed ∙ ap (λ (t : List ℕ). t ++ event_line e) d.is_printed ∙ append_assoc before (flat_map event_line d.events) (event_line e) ∙ ap (λ (t : List ℕ). before ++ t) (sym (lines_push event_line d.events e));
        is_told = grew ∙ ap (λ (t : List ℕ). t ++ told next.lines) d.is_told ∙ sym (told_append d.cluster.lines next.lines);
      }
    where
      drawn_first : (left : ℕ) (rest : List Event) (x : Event) (w : Lcg) (on : Cluster) (k : ℕ) → x ≡ drawn n d.cluster.wire h → w ≡ behind (behind h) → k ≡ number + 1
          → StepsInMemory number x d.cluster on → AreDrawn n k left w on rest → AreDrawn n number (suc left) h d.cluster (x ∷ rest)
      drawn_first left rest x w on k x_is w_is k_is steps are = (
        on,
        rest,
        ap (λ y. y ∷ rest) x_is,
        subst (λ y. StepsInMemory number y d.cluster on) x_is steps,
        subst (λ v. AreDrawn n (number + 1) left v on rest) w_is (subst (λ j. AreDrawn n j left w on rest) k_is are),
      )

pub drawn_all : (n steps : ℕ) (g : Lcg) (before : List ℕ) (number : ℕ) (h : Lcg) (kept : Cluster) (schedule report : List ℕ) → DrawnSoFar n steps g before steps number h kept schedule report → DrawsAll n steps g kept before schedule report
drawn_all n steps g before number h kept schedule report d = record {
  events = d.events;
  at_the_end = d.cluster;
  each = d.each;
  are_drawn = subst (λ (es : List Event). AreDrawn n (2 + 10 * n) steps g (opened n) es) (append-nil d.events) (d.drawn_on 0 [] (omega arith) refl);
  leads = subst (λ (es : List Event). LeadsSpelt (2 + 10 * n) es (opened n) d.cluster) (append-nil d.events) (d.leads_on [] d.cluster refl);
  kept = d.is_kept;
  printed = d.is_printed;
  text = d.is_told;
}

-- ---- the whole text

leads_both : (at : ℕ) (xs ys : List Event) (old mid new : Cluster) → LeadsSpelt at xs old mid → LeadsSpelt (at + length xs) ys mid new → LeadsSpelt at (xs ++ ys) old new
leads_both at [] ys old mid new first second = subst (λ (c : Cluster). LeadsSpelt at ys c new) first (subst (λ k. LeadsSpelt k ys mid new) (omega arith) second)
leads_both at (x ∷ xs) ys old mid new (next, steps, spelt, first) second = (next, steps, spelt, leads_both (at + 1) xs ys next mid new first (subst (λ k. LeadsSpelt k ys mid new) (omega arith) second))

lines_both : (xs ys : List Event) → flat_map event_line (xs ++ ys) ≡ flat_map event_line xs ++ flat_map event_line ys
lines_both [] ys = refl
lines_both (x ∷ xs) ys = ap (λ (t : List ℕ). event_line x ++ t) (lines_both xs ys) ∙ sym (append_assoc (event_line x) (flat_map event_line xs) (flat_map event_line ys))

pub is_random_run : (n seed steps : ℕ) (g : Lcg) (kept : Cluster) (before schedule report whole_report all : List ℕ) (decided : List Command) → n ≤ 7 → g ≡ seeded seed
    → before ≡ nodes_line n ++ flat_map event_line (openings n)
    → LeadsSpelt 2 (openings n) (new_cluster n) (opened n)
    → DrawsAll n steps g kept before schedule report
    → IsDecidedList n kept.wire decided
    → whole_report ≡ report ++ line (codes "decided" ∷ decimal (length decided) ∷ []) ++ decided_lines 0 decided
    → all ≡ (schedule ++ line (codes "report" ∷ [])) ++ whole_report
    → IsRandomRun n seed steps all
is_random_run n seed steps g kept before schedule report whole_report all decided few seed_is front opens d its_list ends is =
    let events = openings n ++ d.events in
    let of_schedule : Scheduled = record { nodes = n; events = events } in
    let of_report : Reported = record { lines = d.at_the_end.lines; decided = decided } in
    let each = each_of_both (IsEvent n) (openings n) d.events (openings_from n 0 n (omega arith)) d.each in
    let leads = leads_both 2 (openings n) d.events (new_cluster n) (opened n) d.at_the_end opens (subst (λ k. LeadsSpelt k d.events (opened n) d.at_the_end) (let c = openings_count n in omega (c, arith)) d.leads) in
    let by_the_wire : IsDecidedList n d.at_the_end.wire decided = subst (λ (c : Cluster). IsDecidedList n c.wire decided) d.kept its_list in
    let world = is_world_run n n (node_laws n few) events d.at_the_end of_report each leads refl by_the_wire in
    record {
      schedule = of_schedule;
      report = of_report;
      drawn = record { events = d.events; are_drawn = subst (λ v. AreDrawn n (2 + 10 * n) steps v (opened n) d.events) seed_is d.are_drawn; nodes = refl; all = refl };
      world = world;
      one_list = agrees n events of_report world;
      real_time = keeps_real_time n events of_report world;
      clean = only_one n events of_report world;
      told =
          is ∙ ap (λ (t : List ℕ). (schedule ++ line (codes "report" ∷ [])) ++ t) (ends ∙ ap (λ (t : List ℕ). t ++ line (codes "decided" ∷ decimal (length decided) ∷ []) ++ decided_lines 0 decided) d.text)
          ∙ ap (λ (t : List ℕ). t ++ line (codes "report" ∷ []) ++ report_text of_report) text_is;
    }
  where
    text_is : schedule ≡ nodes_line n ++ flat_map event_line (openings n ++ d.events)
    text_is = d.printed ∙ ap (λ (t : List ℕ). t ++ flat_map event_line d.events) front ∙ append_assoc (nodes_line n) (flat_map event_line (openings n)) (flat_map event_line d.events) ∙ ap (λ (t : List ℕ). nodes_line n ++ t) (sym (lines_both (openings n) d.events))
