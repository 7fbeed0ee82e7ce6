-- The list of a report keeps the order of real time.
use Rattle.std.proofs.Common.{◌≡◌, ℕ, suc, ◌+◌, ◌<◌, List, [], ◌∷◌, ◌++◌, length, Contains, refl, sym, ◌∙◌, ap, subst, arith, append-nil, append_assoc}
use Rattle.std.specs.Prelude.{IfOk, Result, Ok, Err}
use Rattle.std.proofs.lemmas.List.Concat.{flat_map-append}
use Rattle.rr_types.specs.declared.refusal.Refusal.{Refusal}
use Rattle.rr_model.specs.Laws.{after_steps}
use Rattle.rr_model.specs.World.{World, Step, Told, Acknowledged, empty_world}
use Rattle.rr_model.proofs.Laws.{later_commands_stand_behind}
use Rattle.rr_text.specs.declared.event.Event.{Event}
use Rattle.rr_text.specs.declared.report.ReportLine.{ReportLine}
use Rattle.rr_text.specs.declared.report.ReportLine.TheVariants as line
use Rattle.rr_text.specs.Reported.{Reported}
use Rattle.rr_sim.specs.Clusters.{Cluster, new_cluster, Leads}
use Rattle.rr_sim.specs.Headline.{TakesAlong, IsAlike, in_turn, IsRunOfTheWorld, KeepsRealTime}
use Rattle.rr_sim.proofs.RefusedLaws.{step_notes}
use Rattle.rr_sim.proofs.SubmittedLaws.{leads_along, joined, all_submitted_by_events}
use Rattle.rr_sim.proofs.TellingLaws.{line_told}

-- the pieces of a run up to a moment, and the cluster there
record Cut (n at : ℕ) (before after : List Event) (old : Cluster) (w : World) (pieces : List (List Step)) (new : Cluster) : Type 0 where
  first : List (List Step)
  second : List (List Step)
  here : Cluster
  whole : pieces ≡ first ++ second
  along : TakesAlong n at before old w first here
  alike : IsAlike n here (after_steps w (in_turn first))
  leads_on : Leads (at + length before) after here new

cut : (n at : ℕ) (before after : List Event) (old new : Cluster) (w : World) (pieces : List (List Step)) → IsAlike n old w → TakesAlong n at (before ++ after) old w pieces new → Cut n at before after old w pieces new
cut n at [] after old new w pieces alike along =
    let same : at ≡ at + 0 = omega arith in
    record { first = []; second = pieces; here = old; whole = refl; along = refl; alike = alike; leads_on = subst (λ (k : ℕ). Leads k after old new) same (leads_along n at after old new w pieces along) }
cut n at (e ∷ before) after old new w [] alike along = absurd along
cut n at (e ∷ before) after old new w (steps ∷ pieces) alike (next, step, of, refused, still, rest) =
    let c = cut n (at + 1) before after next new (after_steps w steps) pieces still rest in
    let same : (at + 1) + length before ≡ at + suc (length before) = omega arith in
    record {
      first = steps ∷ c.first;
      second = c.second;
      here = c.here;
      whole = ap (λ (ps : List (List Step)). steps ∷ ps) c.whole;
      along = (next, step, of, refused, still, c.along);
      alike = subst (λ (v : World). IsAlike n c.here v) (sym (joined w steps c.first)) c.alike;
      leads_on = subst (λ (k : ℕ). Leads k after c.here new) same c.leads_on;
    }

-- events only add lines
pub lines_grow : (at : ℕ) (events : List Event) (old new : Cluster) → Leads at events old new → (rest : List ReportLine) × (new.lines ≡ old.lines ++ rest)
lines_grow at [] old new same = ([], ap (λ (c : Cluster). c.lines) same ∙ sym (append-nil old.lines))
lines_grow at (e ∷ es) old new (next, step, leads) =
    let notes = step_notes at e old next step in
    let more = lines_grow (at + 1) es next new leads in
    (notes.notes ++ more.0, more.1 ∙ ap (λ (ls : List ReportLine). ls ++ more.0) notes.lines ∙ append_assoc old.lines notes.notes more.0)

-- the report of a schedule run that is a run of the world keeps real time
pub keeps_real_time : (n : ℕ) (events : List Event) (report : Reported) → IsRunOfTheWorld n events report → KeepsRealTime n events report
keeps_real_time n events report r before after split =
    let along = subst (λ (es : List Event). TakesAlong n 2 es (new_cluster n) empty_world r.pieces r.at_the_end) split r.is_this_one in
    let c = cut n 2 before after (new_cluster n) r.at_the_end empty_world r.pieces r.starts_alike along in
    let more = lines_grow (2 + length before) after c.here r.at_the_end c.leads_on in
    let parts : in_turn r.pieces ≡ in_turn c.first ++ in_turn c.second = ap in_turn c.whole ∙ flat_map-append (λ (piece : List Step). piece) c.first c.second in
    record {
      cluster = c.here;
      at_the_end = r.at_the_end;
      leads = leads_along n 2 before (new_cluster n) c.here empty_world c.first c.along;
      leads_on = c.leads_on;
      lines = r.lines;
      later_lines = more.0;
      begins = r.lines ∙ more.1;
      order = λ p q reply told v new k at. later_commands_stand_behind n (in_turn r.pieces) r.is_a_run (in_turn c.first) (in_turn c.second) parts p q reply
          (subst (λ (ts : List Told). Contains ts (Acknowledged p q reply)) (sym c.alike.told) (line_told c.here.lines (line.Ack p q reply) (Acknowledged p q reply) refl told))
          report.decided r.decided v
          (λ there. new (all_submitted_by_events n before c.here c.first c.here.lines v refl c.along there))
          k at;
    }

-- so does one that comes of the same events at as many nodes
pub run_keeps_real_time : (n m : ℕ) (events same : List Event) (result : Result Reported Refusal) → n ≡ m → events ≡ same → IfOk result (λ report. IsRunOfTheWorld n events report) → IfOk result (λ report. KeepsRealTime m same report)
run_keeps_real_time n m events same (Ok report) f e h = subst (λ (k : ℕ). KeepsRealTime k same report) f (subst (λ (es : List Event). KeepsRealTime n es report) e (keeps_real_time n events report h))
run_keeps_real_time n m events same (Err refusal) f e h = tt
