-- A replay step by step, as the audit goes on.
use Rattle.std.proofs.Common.{◌≡◌, ℕ, suc, ◌+◌, ◌<◌, ◌≤◌, List, [], ◌∷◌, ◌++◌, length, take, drop, get_or, Option, None, Some, Ok, refl, sym, ◌∙◌, ap, subst, arith}
use Rattle.std.specs.Prelude.{slice_get, slice_set}
use Rattle.std.proofs.lemmas.Option.{slice_get_read}
use Rattle.rr_types.specs.declared.message.Message.{Message}
use Rattle.rr_model.specs.NodeLaws.{after_event}
use Rattle.rr_model.specs.NodeState.{NodeState}
use Rattle.rr_model.specs.NodeWorld.{steps_of_event}
use Rattle.rr_model.specs.World.{Step}
use Rattle.rr_text.specs.declared.tape_event.TapeEvent.{TapeEvent}
use Rattle.rr_audit.specs.declared.given.Given.{Given}
use Rattle.rr_audit.specs.Audits.{Replay, new_replay, sent_by, IsNextAt, IsNext, replayed, Leads, IsTapeRun, AgreesWithOneList, StopsAt}
use Rattle.rr_audit.specs.Following.{FollowsAt, Steps}
use Rattle.rr_audit.proofs.TapeRuns.{tape_run, run_ends, agrees, leads_more}

-- the node at this place followed the event, and its message joined the wire
pub stepped : (e : TapeEvent) (old new : Replay) (k : ℕ) (s t : NodeState) → k ≡ e.node → k < length old.nodes → s ≡ get_or old.nodes k s → FollowsAt old.wire e s t (Ok None)
    → new ≡ record { nodes = slice_set old.nodes k t; wire = old.wire ++ sent_by e } → Steps e old new (Ok None)
stepped e old new k s t is there own h same = (
  record { state = s; does = h.0; here = subst (λ (i : ℕ). slice_get old.nodes i ≡ Some s) is (slice_get_read old.nodes (length old.nodes) k s refl there own); next = h.1 },
  same ∙ (λ i. record { nodes = slice_set old.nodes (is i) (h.2 i); wire = old.wire ++ sent_by e }),
)

-- it doesn't follow
pub unstepped : (e : TapeEvent) (old new : Replay) (k : ℕ) (s t : NodeState) (given : Given) → k ≡ e.node → k < length old.nodes → s ≡ get_or old.nodes k s → FollowsAt old.wire e s t (Ok (Some given)) → Steps e old new (Ok (Some given))
unstepped e old new k s t given is there own h next =
    let here : slice_get old.nodes e.node ≡ Some s = subst (λ (i : ℕ). slice_get old.nodes i ≡ Some s) is (slice_get_read old.nodes (length old.nodes) k s refl there own) in
    let same : next.state ≡ s = (let f : Some next.state ≡ Some s = sym next.here ∙ here in cc) in
    h next.does (subst (λ (x : NodeState). IsNextAt old.wire x e next.does) same next.next)

-- what is no value is none
pub no_some : {A : Type 0} (o : Option A) → ((x : A) → o ≡ Some x → ⊥) → o ≡ None
no_some None h = refl
no_some (Some x) h = absurd (h x refl)

-- the events so far lead from n new nodes to here
abbrev pub LeadsTo : ℕ → List TapeEvent → Replay → Type 0
LeadsTo n events here = (steps : List Step) × Leads events (new_replay n) steps here

-- one event more
pub went_on : (n : ℕ) (events more : List TapeEvent) (e : TapeEvent) (old new : Replay) → more ≡ events ++ e ∷ [] → LeadsTo n events old → Steps e old new (Ok None) → LeadsTo n more new
went_on n events more e old new is (steps, leads) (next, same) = (
  steps ++ steps_of_event e.node next.state next.does,
  subst (λ (es : List TapeEvent). Leads es (new_replay n) (steps ++ steps_of_event e.node next.state next.does) new) (sym is)
      (subst (λ (r : Replay). Leads (events ++ e ∷ []) (new_replay n) (steps ++ steps_of_event e.node next.state next.does) r) (sym same) (leads_more events (new_replay n) old steps e next leads)),
)

-- all events
pub finished : (n : ℕ) (events all : List TapeEvent) (here : Replay) → events ≡ all → LeadsTo n events here → IsTapeRun n all × AgreesWithOneList n all
finished n events all here is (steps, leads) =
    let r = tape_run n events steps here leads in
    subst (λ (es : List TapeEvent). IsTapeRun n es × AgreesWithOneList n es) is (r, agrees n events r)

-- the next event isn't what the world gives
pub stopped : (n count : ℕ) (events before after : List TapeEvent) (e : TapeEvent) (here : Replay) → events ≡ before ++ e ∷ after → count ≡ length before → LeadsTo n before here → (IsNext here e → ⊥) → StopsAt n events (count + 1)
stopped n count events before after e here split counted (steps, leads) strange =
    record {
      before = before;
      event = e;
      after = after;
      split = split;
      counted = omega (arith, counted);
      run = tape_run n before steps here leads;
      one_list = agrees n before (tape_run n before steps here leads);
      strange = λ next. strange (subst (λ (r : Replay). IsNext r e) (run_ends n before steps here leads) next);
    }
