-- A node that restarts over facts that fit is in the world as its opening leaves it, and tells of its decided prefix.
use Rattle.std.proofs.Common.{◌≡◌, ℕ, ◌≤◌, ◌<◌, true, List, [], ◌∷◌, ◌++◌, length, take, refl, ap, sym, ◌∙◌, subst, arith, append-nil}
use Rattle.std.specs.Option.{option_map_or}
use Rattle.std.proofs.lemmas.Bool.{false≢true}
use Rattle.std.proofs.lemmas.List.{take_at}
use Rattle.rr_types.specs.declared.fact.Fact.{Fact}
use Rattle.rr_types.specs.declared.command.Command.{Command}
use Rattle.rr_types.specs.Promises as promises
use Rattle.rr_types.specs.Promises.{promise_of}
use Rattle.rr_types.specs.Registry.{registry_of}
use Rattle.rr_model.specs.World as world
use Rattle.rr_model.specs.World.{World, Reported, nothing_heard}
use Rattle.rr_model.specs.NodeState as node
use Rattle.rr_model.specs.NodeState.{NodeState, open_instances}
use Rattle.rr_model.specs.NodeStep.{restored, started}
use Rattle.rr_model.specs.NodeReached.{opened_over}
use Rattle.rr_model.specs.NodeInWorld.{Restarts}
use Rattle.rr_model.proofs.NodeEnters.{restate_all_alike}
use Rattle.rr_model.proofs.NodeFollows.{at_same}
use Rattle.rr_model.proofs.NodeKnows.{Alike}
use Rattle.rr_model.proofs.NodePrefixes.{same_prefix}
use Rattle.rr_model.proofs.NodeStages.{Fitting, restored_knows}

-- an opening only restates: nothing runs, nothing is staged, and all facts are marked
pub opened_alike : (n p : ℕ) (facts : List Fact) → Alike (Fitting n p facts) p facts nothing_heard (restored n p (promise_of facts) (length facts)) (opened_over n p facts)
unfolding started
opened_alike n p facts = let s : NodeState = restored n p (promise_of facts) (length facts) in restate_all_alike (Fitting n p facts) n p facts nothing_heard (open_instances s) s (restored_knows n p facts)

-- an opened node has the decided prefix of its facts
pub opened_prefix : (n p : ℕ) (facts : List Fact) → node.decided_prefix (opened_over n p facts) ≡ world.decided_prefix facts
opened_prefix n p facts = ap (promises.decided_from 0) (opened_alike n p facts).marked ∙ same_prefix facts

-- all its facts are marked
pub opened_marked : (n p : ℕ) (facts : List Fact) → take (opened_over n p facts).marked_end facts ≡ facts
opened_marked n p facts = ap (λ z. take z facts) (opened_alike n p facts).marked_end ∙ ap (take (length facts)) (sym (append-nil facts)) ∙ take_at facts [] (length facts) refl

-- a node that is down restarts
pub restarts_in_world : (n p : ℕ) (kept staged : List Fact) (count : ℕ) → Restarts n p kept staged count
restarts_in_world n p kept staged count w l D short fit =
    let facts : List Fact = kept ++ take count staged in
    let a : Alike (Fitting n p (kept ++ take count staged)) p (kept ++ take count staged) nothing_heard (restored n p (promise_of (kept ++ take count staged)) (length (kept ++ take count staged))) (opened_over n p (kept ++ take count staged)) = opened_alike n p (kept ++ take count staged) in
    let same : w.kept p ++ take count (w.staged p) ≡ kept ++ take count staged = ap (λ z. z ++ take count (w.staged p)) D.keeps ∙ ap (λ z. kept ++ take count z) D.stages in
    let tell : List Command → world.Told = (λ z. Reported p (length z) (registry_of z)) in (
      ((l, D.down, subst (λ z. count ≤ length z) (sym D.stages) short), tt),
      record {
        exists = l;
        up = at_same w.is_up p true;
        runs = λ x. absurd (false≢true x);
        kept = at_same w.kept p _ ∙ same ∙ sym (opened_marked n p (kept ++ take count staged)) ∙ sym (append-nil _);
        staged = at_same w.staged p [] ∙ sym (ap (λ z. z ++ (opened_over n p (kept ++ take count staged)).staged) (ap (λ o. option_map_or (λ group. group) o []) a.running) ∙ a.staged);
        heard = D.heard;
        submitted = λ c x. let k : x.0 < 0 = x.1 in absurd (omega arith);
      },
      ap (λ z. w.trace ++ tell z ∷ []) (ap world.decided_prefix same ∙ sym (opened_prefix n p (kept ++ take count staged))),
    )
