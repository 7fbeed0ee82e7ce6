-- A schedule run is a sound run of the world, and its report agrees with one list.
use Rattle.std.proofs.Common.{◌≡◌, ℕ, ◌+◌, List, [], ◌∷◌, sym, ◌∙◌, ap, subst}
use Rattle.std.specs.Prelude.{IfOk, Result, Ok, Err}
use Rattle.rr_types.specs.declared.refusal.Refusal.{Refusal}
use Rattle.std.specs.List.{AllByRecursion}
use Rattle.rr_types.specs.declared.command.Command.{Command}
use Rattle.rr_types.specs.declared.message.Message.{Message}
use Rattle.rr_model.specs.Laws.{after_steps}
use Rattle.rr_model.specs.Sound.{IsDecidedList}
use Rattle.rr_model.specs.World.{World, Step, empty_world, IsRunFrom, end_of}
use Rattle.rr_model.proofs.NodeFollows.{run_on}
use Rattle.rr_model.proofs.Soundness.{sound}
use Rattle.rr_text.specs.declared.event.Event.{Event}
use Rattle.rr_text.specs.Reported.{Reported}
use Rattle.rr_text.specs.Scheduled.{IsEvent}
use Rattle.rr_sim.specs.Clusters.{Cluster, new_cluster, Leads, LeadsSpelt}
use Rattle.rr_sim.specs.Headline.{told_in, TakesAlong, in_turn, IsRunOfTheWorld, AgreesWithOneList}
use Rattle.rr_sim.proofs.ClusterLaws.{IsClusterInStep, NodeLaws, step_takes, starts_in_step}
use Rattle.rr_sim.proofs.DecidedLaws.{decides_as_listed}
use Rattle.rr_sim.proofs.SubmittedLaws.{joined, all_submitted_by_events}
use Rattle.rr_sim.proofs.TellingLaws.{restarts_of_list, acknowledged_in_list, replies_of_list, one_decision}

-- where events lead with spelt groups, they lead
pub leads_too : (at : ℕ) (events : List Event) (old new : Cluster) → LeadsSpelt at events old new → Leads at events old new
leads_too at [] old new h = h
leads_too at (e ∷ es) old new (next, step, spelt, rest) = (next, step, leads_too (at + 1) es next new rest)

-- events that took the world along by these pieces
record TookAll (n at : ℕ) (events : List Event) (old : Cluster) (w : World) (new : Cluster) : Type 0 where
  pieces : List (List Step)
  along : TakesAlong n at events old w pieces new
  run : IsRunFrom n w (in_turn pieces)
  in_step : IsClusterInStep n new (after_steps w (in_turn pieces))

module _ (n m : ℕ) (laws : NodeLaws n) where
  take_all : (at : ℕ) (events : List Event) (old new : Cluster) (w : World) → AllByRecursion (IsEvent m) events → IsClusterInStep n old w → LeadsSpelt at events old new → TookAll n at events old w new
  take_all at [] old new w valid h leads = record { pieces = []; along = leads; run = tt; in_step = subst (λ (x : Cluster). IsClusterInStep n x w) (sym leads) h }
  take_all at (e ∷ es) old new w valid h (next, step, spelt, rest) =
      let took = step_takes n laws at e m w old next valid.0.fields h step spelt in
      let behind = take_all (at + 1) es next new (after_steps w took.steps) valid.1 took.in_step rest in
      record {
        pieces = took.steps ∷ behind.pieces;
        along = (next, step, took.are, took.refused, took.in_step.alike, behind.along);
        run = run_on n w took.steps (in_turn behind.pieces) took.run behind.run;
        in_step = subst (λ (v : World). IsClusterInStep n new v) (sym (joined w took.steps behind.pieces)) behind.in_step;
      }

  module _ (events : List Event) (new : Cluster) (valid : AllByRecursion (IsEvent m) events) (leads : LeadsSpelt 2 events (new_cluster n) new) where
    -- events lead to a cluster that is in step with some world
    pub leads_in_step : (w : World) × IsClusterInStep n new w
    leads_in_step =
        let took = take_all 2 events (new_cluster n) new empty_world valid (starts_in_step n laws) leads in
        (after_steps empty_world (in_turn took.pieces), took.in_step)

    -- and of whose wire there is a decided list
    pub leads_to_a_list : (list : List Command) × IsDecidedList n new.wire list
    leads_to_a_list =
        let took = take_all 2 events (new_cluster n) new empty_world valid (starts_in_step n laws) leads in
        let exists = (sound n (in_turn took.pieces) took.run).a_decided_list_exists in
        (exists.0, subst (λ (ms : List Message). IsDecidedList n ms exists.0) took.in_step.alike.wire exists.1)

  module _ (events : List Event) (new : Cluster) (report : Reported) (valid : AllByRecursion (IsEvent m) events) (leads : LeadsSpelt 2 events (new_cluster n) new)
      (lines : report.lines ≡ new.lines) (decided : IsDecidedList n new.wire report.decided) where
    all : TookAll n 2 events (new_cluster n) empty_world new
    all = take_all 2 events (new_cluster n) new empty_world valid (starts_in_step n laws) leads

    pub is_world_run : IsRunOfTheWorld n events report
    unfolding all
    is_world_run =
        let alike = all.in_step.alike in
        let by_the_world : IsDecidedList n (end_of (in_turn all.pieces)).wire report.decided = subst (λ (ms : List Message). IsDecidedList n ms report.decided) (sym alike.wire) decided in
        record {
          pieces = all.pieces;
          at_the_end = new;
          is_a_run = all.run;
          starts_alike = (starts_in_step n laws).alike;
          is_this_one = all.along;
          ends_alike = alike;
          lines = lines;
          decided = by_the_world;
          nodes = λ p seat there. decides_as_listed n (in_turn all.pieces) report.decided all.run by_the_world p seat.areas seat.doing (alike.nodes p seat there).doing;
          is_sound = sound n (in_turn all.pieces) all.run;
        }

-- the report of a schedule run that is a run of the world agrees with one list
pub agrees : (n : ℕ) (events : List Event) (report : Reported) → IsRunOfTheWorld n events report → AgreesWithOneList events report
agrees n events report r =
    let run = in_turn r.pieces in
    let told = r.ends_alike.told ∙ ap told_in (sym r.lines) in
    record {
      submitted = λ c there. all_submitted_by_events n events r.at_the_end r.pieces report.lines c r.lines r.is_this_one (r.is_sound.its_commands_were_submitted report.decided r.decided c there);
      restarts = restarts_of_list n run report.lines report.decided r.is_sound told r.decided;
      nothing_acknowledged_is_lost = acknowledged_in_list n run report.lines report.decided r.is_sound told r.decided;
      replies = replies_of_list n run report.lines report.decided r.is_sound told r.decided;
      decisions = one_decision n run report.lines report.decided r.is_sound told r.decided;
    }

-- so does one that comes of the same events
pub run_agrees : (n : ℕ) (events same : List Event) (result : Result Reported Refusal) → events ≡ same → IfOk result (λ report. IsRunOfTheWorld n events report) → IfOk result (λ report. AgreesWithOneList same report)
run_agrees n events same (Ok report) e h = subst (λ (es : List Event). AgreesWithOneList es report) e (agrees n events report h)
run_agrees n events same (Err refusal) e h = tt
