-- A clean report is that of the run in which memory was there for each event.
use Rattle.std.proofs.Common.{◌≡◌, inl, inr, ℕ, zero, suc, ◌+◌, List, [], ◌∷◌, ◌++◌, length, Some, sym, ◌∙◌, ap, subst}
use Rattle.std.specs.Prelude.{false, slice_get, IfOk, Result, Ok, Err}
use Rattle.rr_types.specs.declared.message.Message.{Message}
use Rattle.rr_types.specs.declared.refusal.Refusal.{Refusal}
use Rattle.rr_model.specs.Sound.{IsDecidedList}
use Rattle.rr_model.specs.World.{empty_world}
use Rattle.rr_text.specs.declared.event.Event.{Event}
use Rattle.rr_text.specs.declared.report.ReportLine.{ReportLine}
use Rattle.rr_text.specs.Reported.{Reported}
use Rattle.rr_sim.specs.Clusters.{Cluster, new_cluster, event_step, Leads, after_events, TellsOfWant, IsClean, IsOnlyOneIfClean}
use Rattle.rr_sim.specs.Headline.{IsRunOfTheWorld}
use Rattle.rr_sim.proofs.RealTimeLaws.{lines_grow}
use Rattle.rr_sim.proofs.SubmittedLaws.{leads_along}
use Rattle.rr_sim.proofs.WantLaws.{with_memory}

stays : {X : Type 0} (xs ys : List X) (k : ℕ) (y : X) → slice_get xs k ≡ Some y → slice_get (xs ++ ys) k ≡ Some y
stays [] ys k y e = absurd (cc)
stays (x ∷ xs) ys zero y e = e
stays (x ∷ xs) ys (suc k) y e = stays xs ys k y e

-- what a line tells it tells in a longer report too
tells_on : (lines rest : List ReportLine) (k : ℕ) → TellsOfWant lines k → TellsOfWant (lines ++ rest) k
tells_on lines rest k (at, inl e) = (at, inl (stays lines rest k _ e))
tells_on lines rest k (at, inr e) = (at, inr (stays lines rest k _ e))

leads_in_memory : (at : ℕ) (events : List Event) (old new : Cluster) → Leads at events old new → ((k : ℕ) → TellsOfWant new.lines k → ⊥) → new ≡ after_events at events old
leads_in_memory at [] old new same clean = same
leads_in_memory at (e ∷ es) old new (next, step, leads) clean =
    let more = lines_grow (at + 1) es next new leads in
    let here : next ≡ event_step at false e old = with_memory at e old next step (λ wants. clean (length old.lines) (subst (λ (ls : List ReportLine). TellsOfWant ls (length old.lines)) (sym more.1) (tells_on next.lines more.0 (length old.lines) wants))) in
    leads_in_memory (at + 1) es next new leads clean ∙ ap (after_events (at + 1) es) here

pub only_one : (n : ℕ) (events : List Event) (report : Reported) → IsRunOfTheWorld n events report → IsOnlyOneIfClean n events report
only_one n events report r clean =
    let leads = leads_along n 2 events (new_cluster n) r.at_the_end empty_world r.pieces r.is_this_one in
    let same = leads_in_memory 2 events (new_cluster n) r.at_the_end leads (λ k wants. clean k (subst (λ (ls : List ReportLine). TellsOfWant ls k) (sym r.lines) wants)) in
    let decided = subst (λ (ms : List Message). IsDecidedList n ms report.decided) r.ends_alike.wire r.decided in
    (r.lines ∙ ap (λ (c : Cluster). c.lines) same, subst (λ (c : Cluster). IsDecidedList n c.wire report.decided) same decided)

-- so is one that comes of the same events at as many nodes
pub is_only_one : (n m : ℕ) (events same : List Event) (result : Result Reported Refusal) → n ≡ m → events ≡ same → IfOk result (λ report. IsRunOfTheWorld n events report) → IfOk result (λ report. IsOnlyOneIfClean m same report)
is_only_one n m events same (Ok report) f e h = subst (λ (k : ℕ). IsOnlyOneIfClean k same report) f (subst (λ (es : List Event). IsOnlyOneIfClean n es report) e (only_one n events report h))
is_only_one n m events same (Err refusal) f e h = tt
