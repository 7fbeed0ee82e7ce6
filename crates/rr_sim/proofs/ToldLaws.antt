-- A run that is told line by line tells its report.
use Rattle.std.proofs.Common.{◌≡◌, ◌⊎◌, inl, inr, ℕ, ◌+◌, ◌<◌, ◌≤◌, List, [], ◌∷◌, ◌++◌, length, Option, None, Some, refl, ap, sym, ◌∙◌, subst, arith}
use Rattle.std.specs.Prelude.{Bool, true, false, if◌then◌else◌, slice_get, codes, decimal}
use Rattle.std.specs.Option.{option_map_or}
use Rattle.std.specs.List.{flat_map}
use Rattle.std.proofs.lemmas.List.{append_assoc, append-nil}
use Rattle.rr_types.specs.declared.command.Command.{Command}
use Rattle.rr_types.specs.declared.message.Message.{Message}
use Rattle.rr_types.specs.declared.refusal.Refusal.{Refusal}
use Rattle.rr_types.specs.declared.refusal.Refusal.TheVariants as because
use Rattle.rr_model.specs.Sound.{IsDecidedList}
use Rattle.rr_node.specs.Runs.{sent_by}
use Rattle.rr_node.specs.Seats.{Seat, Answer, seat_step, starve, seat_fails, starve_fails}
use Rattle.rr_types.specs.declared.event.NodeEvent.{NodeEvent}
use Rattle.rr_types.specs.Inputs.{happens_as, message_on}
use Rattle.rr_text.specs.declared.event.Event.{Event}
use Rattle.rr_text.specs.declared.event.Happening.{Happening}
use Rattle.rr_text.specs.declared.event.Happening.TheVariants.{At, Fail, Crash}
use Rattle.rr_text.specs.declared.report.ReportLine.{ReportLine}
use Rattle.rr_text.specs.Lines.{nodes_line, HasNoLine, IsStop}
use Rattle.rr_text.specs.Reported.{Reported}
use Rattle.rr_text.specs.ReportTexts.{report_words, line, decided_lines}
use Rattle.rr_text.specs.Scheduled.{Scheduled, IsEvent}
use Rattle.rr_text.specs.ScheduleTexts.{event_line}
use Rattle.rr_text.proofs.LineReading.{SoFar, so_far_none, so_far_on, so_far_all, so_far_stop}
use Rattle.rr_sim.specs.Clusters.{Cluster, new_cluster, note_of, with_answer, at_node, fail_at, happens, event_step, Steps, LeadsSpelt, IsSpeltBehind}
use Rattle.rr_sim.specs.Told.{told, TellsAll, IsReportOn}
use Rattle.rr_sim.proofs.CleanLaws.{only_one}
use Rattle.rr_sim.proofs.HeadlineLaws.{is_world_run, agrees}
use Rattle.rr_sim.proofs.NodeLaws.{node_laws}
use Rattle.rr_sim.proofs.RealTimeLaws.{keeps_real_time}

-- ---- lines that were told before don't matter to an event

-- a cluster that has these lines before its own
abbrev pub behind_lines : List ReportLine → Cluster → Cluster
behind_lines ls c = record c { lines = ls ++ c.lines }

answered : (p at : ℕ) (ls : List ReportLine) (c : Cluster) (answer : Answer) → with_answer p at (behind_lines ls c) answer ≡ behind_lines ls (with_answer p at c answer)
answered p at ls c answer = ap (λ (lines : List ReportLine). record (with_answer p at c answer) { lines = lines }) (append_assoc ls c.lines (note_of p at (length c.wire) answer.0))

seated : {X : Type 0} (ls : List ReportLine) (c : Cluster) (f g : X → Cluster) (o : Option X) → ((x : X) → f x ≡ behind_lines ls (g x)) → option_map_or f o (behind_lines ls c) ≡ behind_lines ls (option_map_or g o c)
seated ls c f g None h = refl
seated ls c f g (Some x) h = h x

at_node_behind : (p at : ℕ) (starved : Bool) (event : NodeEvent Message) (ls : List ReportLine) (c : Cluster) → at_node p at starved event (behind_lines ls c) ≡ behind_lines ls (at_node p at starved event c)
at_node_behind p at starved event ls c =
    seated ls c (λ seat. with_answer p at (behind_lines ls c) (if starved then starve event seat else seat_step event seat)) (λ seat. with_answer p at c (if starved then starve event seat else seat_step event seat)) (slice_get c.seats p)
    (λ seat. answered p at ls c (if starved then starve event seat else seat_step event seat))

fail_at_behind : (p at : ℕ) (starved : Bool) (fill : List ℕ) (ls : List ReportLine) (c : Cluster) → fail_at p at starved fill (behind_lines ls c) ≡ behind_lines ls (fail_at p at starved fill c)
fail_at_behind p at starved fill ls c =
    seated ls c (λ seat. with_answer p at (behind_lines ls c) (if starved then starve_fails fill seat else seat_fails fill seat)) (λ seat. with_answer p at c (if starved then starve_fails fill seat else seat_fails fill seat)) (slice_get c.seats p)
    (λ seat. answered p at ls c (if starved then starve_fails fill seat else seat_fails fill seat))

crashed_behind : (ls : List ReportLine) (c : Cluster) (f : Seat → List Seat) (o : Option Seat) → option_map_or (λ (seat : Seat). record (behind_lines ls c) { seats = f seat }) o (behind_lines ls c) ≡ behind_lines ls (option_map_or (λ (seat : Seat). record c { seats = f seat }) o c)
crashed_behind ls c f None = refl
crashed_behind ls c f (Some seat) = refl

happened : (p at : ℕ) (starved : Bool) (what : Happening) (ls : List ReportLine) (c : Cluster) → happens p at starved what (behind_lines ls c) ≡ behind_lines ls (happens p at starved what c)
happened p at starved (At event) ls c =
    seated ls c (λ e. at_node p at starved e (behind_lines ls c)) (λ e. at_node p at starved e c) (happens_as (message_on c.wire p) event) (λ e. at_node_behind p at starved e ls c)
happened p at starved (Fail fill) ls c = fail_at_behind p at starved fill ls c
happened p at starved (Crash a b fill) ls c = crashed_behind ls c _ (slice_get c.seats p)

pub stepped : (at : ℕ) (starved : Bool) (e : Event) (ls : List ReportLine) (c : Cluster) → event_step at starved e (behind_lines ls c) ≡ behind_lines ls (event_step at starved e c)
stepped at starved e ls c = happened e.node at starved e.what ls c

pub steps_behind : (at : ℕ) (e : Event) (ls : List ReportLine) (old new : Cluster) → Steps at e old new → Steps at e (behind_lines ls old) (behind_lines ls new)
steps_behind at e ls old new (inl h) = inl (ap (behind_lines ls) h ∙ sym (stepped at false e ls old))
steps_behind at e ls old new (inr h) = inr (ap (behind_lines ls) h ∙ sym (stepped at true e ls old))

-- ---- one more at the end

pub length_push : {X : Type 0} (xs : List X) (x : X) → length (xs ++ x ∷ []) ≡ length xs + 1
length_push [] x = refl
length_push (y ∷ xs) x = let e = length_push xs x in omega (e, arith)

pub lines_push : {X : Type 0} (line : X → List ℕ) (xs : List X) (y : X) → flat_map line (xs ++ y ∷ []) ≡ flat_map line xs ++ line y
lines_push line [] y = append-nil (line y)
lines_push line (x ∷ xs) y = ap (λ (w : List ℕ). line x ++ w) (lines_push line xs y) ∙ sym (append_assoc (line x) (flat_map line xs) (line y))

pub told_append : (ks ls : List ReportLine) → told (ks ++ ls) ≡ told ks ++ told ls
told_append [] ls = refl
told_append (k ∷ ks) ls = ap (λ (t : List ℕ). line (report_words k) ++ t) (told_append ks ls) ∙ sym (append_assoc (line (report_words k)) (told ks) (told ls))

-- ---- as the loop over the lines goes

-- the events so far lead to a cluster, whose lines the text has and the cluster that is kept hasn't
pub record ToldSoFar (n : ℕ) (bytes : List ℕ) (old : Cluster) (before : List ℕ) (number : ℕ) (rest : List ℕ) (kept : Cluster) (text : List ℕ) : Type 0 where
  pub events : List Event
  pub cluster : Cluster
  pub so_far : SoFar (IsEvent n) event_line bytes events rest
  pub counted : number ≡ length events + 2
  pub leads_on : (more : List Event) (end : Cluster) → LeadsSpelt number more cluster end → LeadsSpelt 2 (events ++ more) old end
  pub is_kept : kept ≡ record cluster { lines = [] }
  pub is_told : text ≡ before ++ told cluster.lines

pub told_none : (n : ℕ) (bytes : List ℕ) (old : Cluster) (before : List ℕ) → old.lines ≡ [] → ToldSoFar n bytes old before 2 bytes old before
told_none n bytes old before none = record {
  events = [];
  cluster = old;
  so_far = so_far_none (IsEvent n) event_line bytes;
  counted = refl;
  leads_on = λ more end leads. leads;
  is_kept = ap (λ (ls : List ReportLine). record old { lines = ls }) none;
  is_told = sym (append-nil before) ∙ ap (λ (ls : List ReportLine). before ++ told ls) (sym none);
}

-- the kept cluster behind the lines of the whole is the whole
pub whole : (cluster kept : Cluster) → kept ≡ record cluster { lines = [] } → behind_lines cluster.lines kept ≡ cluster
whole cluster kept is = ap (behind_lines cluster.lines) is ∙ ap (λ (ls : List ReportLine). record cluster { lines = ls }) (append-nil cluster.lines)

pub spelt_behind : (e : Event) (ls : List ReportLine) (old new cluster : Cluster) → behind_lines ls old ≡ cluster → IsSpeltBehind e old new → IsSpeltBehind e cluster (behind_lines ls new)
spelt_behind e ls old new cluster is (inl same) = inl (ap (behind_lines ls) same ∙ is)
spelt_behind e ls old new cluster is (inr spelt) = inr spelt

pub told_more : (n : ℕ) (bytes : List ℕ) (old : Cluster) (before : List ℕ) (number next_number : ℕ) (rest after : List ℕ) (kept next empty : Cluster) (text longer : List ℕ) (e : Event)
    → ToldSoFar n bytes old before number rest kept text
    → (number < 1000002) × IsEvent n e × (rest ≡ event_line e ++ after)
    → Steps number e kept next → IsSpeltBehind e kept next
    → empty ≡ record next { lines = [] } → longer ≡ text ++ told next.lines → next_number ≡ number + 1
    → ToldSoFar n bytes old before next_number after empty longer
told_more n bytes old before number next_number rest after kept next empty text longer e h read steps spelt emptied grew counts =
    let same = whole h.cluster kept h.is_kept in
    let on = behind_lines h.cluster.lines next in
    let steps_on : Steps number e h.cluster on = subst (λ (c : Cluster). Steps number e c on) same (steps_behind number e h.cluster.lines kept next steps) in
    let spelt_on : IsSpeltBehind e h.cluster on = spelt_behind e h.cluster.lines kept next h.cluster same spelt in
    record {
      events = h.events ++ e ∷ [];
      cluster = on;
      so_far = so_far_on (IsEvent n) event_line bytes rest after h.events e h.so_far (omega (arith, h.counted, read.0)) read.1 read.2;
      counted = (let l = length_push h.events e in omega (arith, counts, h.counted, l));
      leads_on = λ more end leads.
          subst (λ (es : List Event). LeadsSpelt 2 es old end) (sym (append_assoc h.events (e ∷ []) more))
          (h.leads_on (e ∷ more) end (on, steps_on, spelt_on, subst (λ (k : ℕ). LeadsSpelt k more on end) counts leads));
      is_kept = emptied;
      is_told = grew ∙ ap (λ (t : List ℕ). t ++ told next.lines) h.is_told ∙ append_assoc before (told h.cluster.lines) (told next.lines) ∙ ap (λ (t : List ℕ). before ++ t) (sym (told_append h.cluster.lines next.lines));
    }

pub told_all : (n : ℕ) (bytes : List ℕ) (old : Cluster) (before : List ℕ) (number : ℕ) (rest : List ℕ) (kept : Cluster) (text : List ℕ) → ToldSoFar n bytes old before number rest kept text → rest ≡ [] → TellsAll n bytes old kept before text
told_all n bytes old before number rest kept text h none = record {
  events = h.events;
  at_the_end = h.cluster;
  printed = so_far_all (IsEvent n) event_line bytes rest h.events h.so_far (ap length none);
  leads = subst (λ (es : List Event). LeadsSpelt 2 es old h.cluster) (append-nil h.events) (h.leads_on [] h.cluster refl);
  kept = h.is_kept;
  text = h.is_told;
}

pub told_stop : (n : ℕ) (bytes : List ℕ) (old : Cluster) (before : List ℕ) (number : ℕ) (rest : List ℕ) (kept : Cluster) (text : List ℕ) (e : Refusal) → ToldSoFar n bytes old before number rest kept text
    → (e ≡ because.OutOfMemory) ⊎ ((e ≡ because.BadEvent number) × (0 < length rest) × ((1000002 ≤ number) ⊎ HasNoLine (IsEvent n) event_line rest))
    → IsStop (IsEvent n) event_line bytes e
told_stop n bytes old before number rest kept text e h (inl same) = subst (λ (x : Refusal). IsStop (IsEvent n) event_line bytes x) (sym same) tt
told_stop n bytes old before number rest kept text e h (inr stops) =
    subst (λ (x : Refusal). IsStop (IsEvent n) event_line bytes x) (sym stops.0) (so_far_stop (IsEvent n) event_line bytes rest h.events number h.so_far h.counted stops.1 stops.2)

-- ---- the whole text

pub is_report_on : (n : ℕ) (bytes rest : List ℕ) (kept : Cluster) (text all : List ℕ) (decided : List Command) → 1 ≤ n → n ≤ 7 → bytes ≡ nodes_line n ++ rest
    → TellsAll n rest (new_cluster n) kept [] text → IsDecidedList n kept.wire decided
    → all ≡ text ++ line (codes "decided" ∷ decimal (length decided) ∷ []) ++ decided_lines 0 decided
    → IsReportOn bytes all
is_report_on n bytes rest kept text all decided some few split t its_list is =
    let schedule : Scheduled = record { nodes = n; events = t.events } in
    let report : Reported = record { lines = t.at_the_end.lines; decided = decided } in
    let by_the_wire : IsDecidedList n t.at_the_end.wire decided = subst (λ (c : Cluster). IsDecidedList n c.wire decided) t.kept its_list in
    let world = is_world_run n n (node_laws n few) t.events t.at_the_end report t.printed.each t.leads refl by_the_wire in
    record {
      schedule = schedule;
      report = report;
      lawful = record { some = some; few = few; short = t.printed.short; each = t.printed.each };
      read = split ∙ ap (λ (w : List ℕ). nodes_line n ++ w) t.printed.split;
      world = world;
      one_list = agrees n t.events report world;
      real_time = keeps_real_time n t.events report world;
      clean = only_one n t.events report world;
      told = is ∙ ap (λ (w : List ℕ). w ++ line (codes "decided" ∷ decimal (length decided) ∷ []) ++ decided_lines 0 decided) t.text;
    }
