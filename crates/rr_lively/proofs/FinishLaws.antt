-- A schedule that was read and goes on by added events is finished with its report.
use Rattle.std.proofs.Common.{◌≡◌, ℕ, ◌+◌, ◌≤◌, List, [], ◌∷◌, ◌++◌, length, drop, refl, ap, sym, ◌∙◌, subst, arith}
use Rattle.std.specs.Prelude.{codes, decimal}
use Rattle.std.specs.List.{AllByRecursion, flat_map}
use Rattle.std.proofs.lemmas.List.{append_assoc, append-nil, length-append}
use Rattle.rr_types.specs.declared.command.Command.{Command}
use Rattle.rr_model.specs.Sound.{IsDecidedList}
use Rattle.rr_text.specs.declared.event.Event.{Event}
use Rattle.rr_text.specs.Lines.{nodes_line}
use Rattle.rr_text.specs.ReportTexts.{line, decided_lines}
use Rattle.rr_text.specs.Scheduled.{IsEvent}
use Rattle.rr_text.specs.ScheduleTexts.{event_line}
use Rattle.rr_sim.specs.Clusters.{Cluster, new_cluster, LeadsSpelt}
use Rattle.rr_sim.specs.Told.{told, TellsAll, IsReportOn}
use Rattle.rr_sim.proofs.DrawingLemmas.{each_of_both}
use Rattle.rr_sim.proofs.ToldLaws.{ToldSoFar, lines_push, is_report_on}
use Rattle.rr_lively.specs.Lively.{IsSoFar, IsScheduleTo}
use Rattle.rr_lively.proofs.LivelyLaws.{is_schedule_to}
use Rattle.rr_lively.specs.Finishes.{IsAdded, Adds, IsFinish}

-- ---- events that are added

pub adds_none : (n : ℕ) (xs : List ℕ) → Adds n xs xs
adds_none n xs = record { more = []; each = tt; grown = sym (append-nil xs) }

pub adds_one : (n : ℕ) (xs ys : List ℕ) (e : Event) → IsAdded n e → ys ≡ xs ++ event_line e → Adds n xs ys
adds_one n xs ys e is grows = record { more = e ∷ []; each = (is, tt); grown = grows ∙ ap (λ (t : List ℕ). xs ++ t) (sym (append-nil (event_line e))) }

-- the lines of both
lines_both : (ds es : List Event) → flat_map event_line (ds ++ es) ≡ flat_map event_line ds ++ flat_map event_line es
lines_both [] es = refl
lines_both (d ∷ ds) es = ap (λ (t : List ℕ). event_line d ++ t) (lines_both ds es) ∙ sym (append_assoc (event_line d) (flat_map event_line ds) (flat_map event_line es))

pub adds_both : (n : ℕ) (xs ys zs : List ℕ) → Adds n xs ys → Adds n ys zs → Adds n xs zs
adds_both n xs ys zs first second = record {
  more = first.more ++ second.more;
  each = each_of_both (IsAdded n) first.more second.more first.each second.each;
  grown = second.grown ∙ ap (λ (t : List ℕ). t ++ flat_map event_line second.more) first.grown
      ∙ append_assoc xs (flat_map event_line first.more) (flat_map event_line second.more)
      ∙ ap (λ (t : List ℕ). xs ++ t) (sym (lines_both first.more second.more));
}

pub adds_more : (n : ℕ) (xs ys : List ℕ) → Adds n xs ys → length xs ≤ length ys
adds_more n xs ys adds = (let l = length-append xs (flat_map event_line adds.more) in omega (arith, ap length adds.grown, l))

-- ---- a schedule that was read whole

pub read_whole : (n at : ℕ) (lines rest : List ℕ) (kept : Cluster) (text : List ℕ) → ToldSoFar n lines (new_cluster n) [] at rest kept text → rest ≡ []
    → IsSoFar n at kept (nodes_line n ++ lines) text
read_whole n at lines rest kept text h none = record {
  events = h.events;
  cluster = h.cluster;
  each = h.so_far.each;
  counted = (let c = h.counted in omega (arith, c));
  leads = subst (λ (es : List Event). LeadsSpelt 2 es (new_cluster n) h.cluster) (append-nil h.events) (h.leads_on [] h.cluster refl);
  is_kept = h.is_kept;
  printed = ap (λ (t : List ℕ). nodes_line n ++ t) (h.so_far.split ∙ ap (λ (t : List ℕ). flat_map event_line h.events ++ t) none ∙ append-nil (flat_map event_line h.events));
  is_told = h.is_told;
}

pub read_as : (n at : ℕ) (bytes lines rest schedule : List ℕ) (kept cluster : Cluster) (text : List ℕ) → ToldSoFar n lines (new_cluster n) [] at rest kept text → rest ≡ []
    → bytes ≡ nodes_line n ++ lines → schedule ≡ bytes → cluster ≡ kept → IsSoFar n at cluster schedule text
read_as n at bytes lines rest schedule kept cluster text h none split same is =
    subst (λ (c : Cluster). IsSoFar n at c schedule text) (sym is)
    (subst (λ (t : List ℕ). IsSoFar n at kept t text) (sym (same ∙ split)) (read_whole n at lines rest kept text h none))

pub read_below : (n at : ℕ) (lines rest : List ℕ) (kept : Cluster) (text : List ℕ) → ToldSoFar n lines (new_cluster n) [] at rest kept text → at ≤ 1000002
read_below n at lines rest kept text h = (let c = h.counted in let s = h.so_far.short in omega (arith, c, s))

pub read_to : (n at : ℕ) (bytes lines rest : List ℕ) (kept : Cluster) (text : List ℕ) → 1 ≤ n → n ≤ 7 → ToldSoFar n lines (new_cluster n) [] at rest kept text → rest ≡ []
    → bytes ≡ nodes_line n ++ lines → IsScheduleTo n at bytes
read_to n at bytes lines rest kept text some few h none split =
    is_schedule_to n at kept bytes text some few (read_below n at lines rest kept text h) (read_as n at bytes lines rest bytes kept kept text h none split refl refl)

-- ---- the end

dropped : (xs ys : List ℕ) → drop (length xs) (xs ++ ys) ≡ ys
dropped [] ys = refl
dropped (x ∷ xs) ys = dropped xs ys

pub is_finish : (n at from : ℕ) (kept : Cluster) (given whole report ended added : List ℕ) (decided : List Command) → 1 ≤ n → n ≤ 7 → at ≤ 1000002
    → IsSoFar n at kept whole report → IsScheduleTo n from given → Adds n given whole → IsDecidedList n kept.wire decided
    → ended ≡ report ++ line (codes "decided" ∷ decimal (length decided) ∷ []) ++ decided_lines 0 decided
    → added ≡ drop (length given) whole
    → IsFinish given added ended
is_finish n at from kept given whole report ended added decided some few below s start adds its_list ends cut =
    let bytes = flat_map event_line s.events in
    let tells : TellsAll n bytes (new_cluster n) kept [] report = record {
      events = s.events;
      at_the_end = s.cluster;
      printed = record { each = s.each; short = omega (below, s.counted, arith); split = refl };
      leads = s.leads;
      kept = s.is_kept;
      text = s.is_told;
    } in
    let is : added ≡ flat_map event_line adds.more = cut ∙ ap (drop (length given)) adds.grown ∙ dropped given (flat_map event_line adds.more) in
    let both : whole ≡ given ++ added = adds.grown ∙ ap (λ (t : List ℕ). given ++ t) (sym is) in
    record {
      schedule = start.schedule;
      more = adds.more;
      lawful = start.lawful;
      read = start.told;
      each = subst (λ (m : ℕ). AllByRecursion (IsAdded m) adds.more) (sym start.nodes) adds.each;
      lines = is;
      is_report = subst (λ (t : List ℕ). IsReportOn t ended) both (is_report_on n whole bytes kept report ended decided some few s.printed tells its_list ends);
    }
