-- A tape run is a sound run of the world, and what the tape says agrees with one list.
use Rattle.std.proofs.Common.{◌≡◌, ◌≢◌, ◌⊎◌, inl, inr, ℕ, zero, suc, ◌+◌, ◌<◌, ◌≤◌, false, List, [], ◌∷◌, ◌++◌, length, map, take, Contains, None, Some, refl, sym, ◌∙◌, ap, subst, arith, append-nil, append_assoc}
use Rattle.std.specs.Prelude.{slice_get}
use Rattle.std.specs.List.{flat_map, range_with_len}
use Rattle.std.proofs.lemmas.Bool.{cases_lt}
use Rattle.std.proofs.lemmas.List.Concat.{flat_map-append}
use Rattle.rr_types.specs.declared.command.Command.{Command}
use Rattle.rr_types.specs.declared.command.RequestNo.{RequestNo}
use Rattle.rr_types.specs.declared.command.Reply.{Reply}
use Rattle.rr_types.specs.declared.message.Body.TheVariants.{Decision}
use Rattle.rr_types.specs.declared.message.Message.{Message}
use Rattle.rr_types.specs.Registry.{reply_of}
use Rattle.rr_model.specs.Lawful.{Says}
use Rattle.rr_model.specs.Laws.{after_steps}
use Rattle.rr_model.specs.NodeInWorld.{IsDownIn, AreStepsAt}
use Rattle.rr_model.specs.NodeReached as reached
use Rattle.rr_model.specs.NodeState.{NodeState}
use Rattle.rr_model.specs.NodeStep.{started}
use Rattle.rr_model.specs.NodeWorld.{steps_of_event}
use Rattle.rr_model.specs.Sound.{IsDecidedList, IsSound}
use Rattle.rr_model.specs.World as world
use Rattle.rr_model.specs.World.{World, Step, Restart, Told, Sent, Acknowledged, after_step, empty_world, nothing_heard, IsRun, IsRunFrom, end_of}
use Rattle.rr_model.proofs.Frames.{steps_alone, stays_in_world, stays_down}
use Rattle.rr_model.proofs.Laws.{after_steps-append, later_commands_stand_behind}
use Rattle.rr_model.proofs.NodeFollows.{run_on}
use Rattle.rr_model.proofs.NodeRestarts.{restarts_in_world}
use Rattle.rr_model.proofs.Places.{place_of, Contains-split}
use Rattle.rr_model.proofs.Soundness.{sound}
use Rattle.rr_text.specs.declared.tape_event.TapeEvent.{TapeEvent}
use Rattle.rr_text.specs.declared.tape_event.Recorded.{Recorded}
use Rattle.rr_text.specs.declared.tape_event.Recorded.TheVariants as tape
use Rattle.rr_types.specs.declared.input.Input.TheVariants as input
use Rattle.rr_text.specs.Taped.{of_node}
use Rattle.rr_audit.specs.Audits.{Replay, new_replay, IsNext, sent_by, told_by, submitted_by, replayed, Leads, openings, IsTapeRun, submits, sends, acks, AgreesWithOneList}
use Rattle.rr_audit.proofs.Alike.{IsThere, IsProper, IsAlike, Took, takes}

-- ---- the openings

-- of n nodes those below k have opened over no facts, and the others are down
record Opened (k : ℕ) (n : ℕ) (w : World) : Type 0 where
  up : (q : ℕ) → q < k → IsThere n q (started n q [] 0) w
  down : (q : ℕ) → k ≤ q → IsDownIn q [] [] w
  wire : w.wire ≡ []
  submitted : w.submitted ≡ []

module _ (n : ℕ) where
  -- node k restarts
  restarted : (k : ℕ) (w : World) → k < n → Opened k n w → IsRunFrom n w (Restart k 0 ∷ []) × IsThere n k (started n k [] 0) (after_step w (Restart k 0))
  restarted k w l h =
      let r = restarts_in_world n k [] [] 0 w l (h.down k (omega arith)) (omega arith) refl in
      (r.0, record { facts = []; heard = nothing_heard; reached = reached.Opened [] refl; in_world = r.1 })

  opens : (k : ℕ) (w : World) → k < n → Opened k n w → Opened (k + 1) n (after_step w (Restart k 0))
  opens k w l h = record {
    up = λ q less. by q less (cases_lt q k);
    down = λ q more. stays_down q [] [] w (after_step w (Restart k 0)) (steps_alone q k w (Restart k 0 ∷ []) (λ e. omega (arith, e, more)) (refl, tt)) (h.down q (omega (arith, more)));
    wire = h.wire;
    submitted = h.submitted;
  }
    where
      by : (q : ℕ) → q < k + 1 → (q < k) ⊎ (k ≤ q) → IsThere n q (started n q [] 0) (after_step w (Restart k 0))
      by q less (inl before) =
          let t = h.up q before in
          record { facts = t.facts; heard = t.heard; reached = t.reached; in_world = stays_in_world false n q t.facts t.heard (started n q [] 0) w (after_step w (Restart k 0)) (steps_alone q k w (Restart k 0 ∷ []) (λ e. omega (arith, e, before)) (refl, tt)) t.in_world }
      by q less (inr now) =
          let same : k ≡ q = omega (arith, less, now) in
          subst (λ (x : ℕ). IsThere n x (started n x [] 0) (after_step w (Restart k 0))) same (restarted k w l h).1

  all_open : (k count : ℕ) (w : World) → k + count ≡ n → Opened k n w → IsRunFrom n w (map (λ p. Restart p 0) (range_with_len k count)) × Opened n n (after_steps w (map (λ p. Restart p 0) (range_with_len k count)))
  all_open k zero w is h = (tt, subst (λ (x : ℕ). Opened x n w) (let same : k ≡ n = omega (arith, is) in same) h)
  all_open k (suc count) w is h =
      let l : k < n = omega (arith, is) in
      let more = all_open (k + 1) count (after_step w (Restart k 0)) (omega (arith, is)) (opens k w l h) in
      (((restarted k w l h).0.0, more.0), more.1)

  none_open : Opened 0 n empty_world
  none_open = record {
    up = λ q less. absurd (omega (arith, less));
    down = λ q more. record { down = refl; keeps = refl; stages = refl; heard = refl };
    wire = refl;
    submitted = refl;
  }

  opened : IsRunFrom n empty_world (openings n) × Opened n n (end_of (openings n))
  opened = all_open 0 n empty_world (omega arith) none_open

  node_at : (k count p : ℕ) (s : NodeState) → slice_get (map (λ q. started n q [] 0) (range_with_len k count)) p ≡ Some s → (p < count) × (started n (k + p) [] 0 ≡ s)
  node_at k zero p s e = absurd (let no : None ≡ Some s = e in cc)
  node_at k (suc count) zero s e =
      let f : started n k [] 0 ≡ s = (let g : Some (started n k [] 0) ≡ Some s = e in cc) in
      (omega arith, ap (λ (x : ℕ). started n x [] 0) (let here : k + 0 ≡ k = omega arith in here) ∙ f)
  node_at k (suc count) (suc p) s e =
      let r = node_at (k + 1) count p s e in
      (omega (arith, r.0), ap (λ (x : ℕ). started n x [] 0) (let there : k + suc p ≡ (k + 1) + p = omega arith in there) ∙ r.1)

  starts_alike : IsAlike n (new_replay n) (end_of (openings n))
  starts_alike = record {
    nodes = λ p s e. let r = node_at 0 n p s e in subst (λ (x : NodeState). IsThere n p x (end_of (openings n))) (ap (λ (x : ℕ). started n x [] 0) (let same : p ≡ 0 + p = omega arith in same) ∙ r.1) (opened.1.up p r.0);
    wire = opened.1.wire;
    proper = tt;
  }

-- ---- the events

-- events that took the world along
record TookAll (n : ℕ) (events : List TapeEvent) (w : World) (steps : List Step) (new : Replay) : Type 0 where
  run : IsRunFrom n w steps
  alike : IsAlike n new (after_steps w steps)
  sent : (after_steps w steps).wire ≡ w.wire ++ flat_map sent_by events
  told : (after_steps w steps).trace ≡ w.trace ++ flat_map told_by events
  submitted : (after_steps w steps).submitted ≡ w.submitted ++ flat_map submitted_by events

take_all : (n : ℕ) (events : List TapeEvent) (old new : Replay) (w : World) (steps : List Step) → IsAlike n old w → Leads events old steps new → TookAll n events w steps new
take_all n [] old new w steps alike (none, same) =
    subst (λ (x : List Step). TookAll n [] w x new) (sym none) (record {
      run = tt;
      alike = subst (λ (x : Replay). IsAlike n x w) (sym same) alike;
      sent = sym (append-nil w.wire);
      told = sym (append-nil w.trace);
      submitted = sym (append-nil w.submitted);
    })
take_all n (e ∷ es) old new w steps alike (next, rest, split, leads) =
    let took = takes n old e next w alike in
    let more = take_all n es (replayed e next.state next.does old) new (after_steps w (steps_of_event e.node next.state next.does)) rest took.alike leads in
    let joined : after_steps w (steps_of_event e.node next.state next.does ++ rest) ≡ after_steps (after_steps w (steps_of_event e.node next.state next.does)) rest =
    after_steps-append w (steps_of_event e.node next.state next.does) rest in
    subst (λ (x : List Step). TookAll n (e ∷ es) w x new) (sym split) (record {
      run = run_on n w (steps_of_event e.node next.state next.does) rest took.run more.run;
      alike = subst (λ (v : World). IsAlike n new v) (sym joined) more.alike;
      sent = ap (λ (v : World). v.wire) joined ∙ more.sent ∙ ap (λ (ms : List Message). ms ++ flat_map sent_by es) took.sent ∙ append_assoc w.wire (sent_by e) (flat_map sent_by es);
      told = ap (λ (v : World). v.trace) joined ∙ more.told ∙ ap (λ (ts : List Told). ts ++ flat_map told_by es) took.told ∙ append_assoc w.trace (told_by e) (flat_map told_by es);
      submitted = ap (λ (v : World). v.submitted) joined ∙ more.submitted ∙ ap (λ (cs : List Command). cs ++ flat_map submitted_by es) took.submitted ∙ append_assoc w.submitted (submitted_by e) (flat_map submitted_by es);
    })

-- events that lead from the openings on, and the world behind them
record Whole (n : ℕ) (events : List TapeEvent) (steps : List Step) : Type 0 where
  run : IsRun n (openings n ++ steps)
  wire : (end_of (openings n ++ steps)).wire ≡ flat_map sent_by events
  told : (end_of (openings n ++ steps)).trace ≡ (end_of (openings n)).trace ++ flat_map told_by events
  submitted : (end_of (openings n ++ steps)).submitted ≡ flat_map submitted_by events

whole : (n : ℕ) (events : List TapeEvent) (steps : List Step) (new : Replay) → Leads events (new_replay n) steps new → Whole n events steps
whole n events steps new leads = record {
  run = run_on n empty_world (openings n) steps (opened n).0 all.run;
  wire = ap (λ (v : World). v.wire) joined ∙ all.sent ∙ ap (λ (ms : List Message). ms ++ flat_map sent_by events) (opened n).1.wire;
  told = ap (λ (v : World). v.trace) joined ∙ all.told;
  submitted = ap (λ (v : World). v.submitted) joined ∙ all.submitted ∙ ap (λ (cs : List Command). cs ++ flat_map submitted_by events) (opened n).1.submitted;
}
  where
    all : TookAll n events (end_of (openings n)) steps new
    all = take_all n events (new_replay n) new (end_of (openings n)) steps (starts_alike n) leads

    joined : end_of (openings n ++ steps) ≡ after_steps (end_of (openings n)) steps
    joined = after_steps-append empty_world (openings n) steps

pub tape_run : (n : ℕ) (events : List TapeEvent) (steps : List Step) (new : Replay) → Leads events (new_replay n) steps new → IsTapeRun n events
tape_run n events steps new leads =
    let w = whole n events steps new leads in
    record { steps = steps; at_the_end = new; leads = leads; is_a_run = w.run; is_sound = sound n (openings n ++ steps) w.run; wire = w.wire; told = w.told; submitted = w.submitted }

-- it ends there
pub run_ends : (n : ℕ) (events : List TapeEvent) (steps : List Step) (new : Replay) (leads : Leads events (new_replay n) steps new) → (tape_run n events steps new leads).at_the_end ≡ new
unfolding tape_run
run_ends n events steps new leads = refl

-- ---- one list

-- events that lead somewhere lead there in two parts
record Cut (before after : List TapeEvent) (old : Replay) (steps : List Step) : Type 0 where
  first : List Step
  second : List Step
  here : Replay
  split : steps ≡ first ++ second
  leads : Leads before old first here

cut : (before after : List TapeEvent) (old new : Replay) (steps : List Step) → Leads (before ++ after) old steps new → Cut before after old steps
cut [] after old new steps leads = record { first = []; second = steps; here = old; split = refl; leads = (refl, refl) }
cut (e ∷ before) after old new steps (next, rest, split, leads) =
    let c = cut before after (replayed e next.state next.does old) new rest leads in
    record {
      first = steps_of_event e.node next.state next.does ++ c.first;
      second = c.second;
      here = c.here;
      split = split ∙ ap (λ (xs : List Step). steps_of_event e.node next.state next.does ++ xs) c.split ∙ sym (append_assoc (steps_of_event e.node next.state next.does) c.first c.second);
      leads = (next, c.first, refl, c.leads);
    }

-- what an event gives is given by the tape
given_by : {A : Type 0} (of : TapeEvent → List A) (events : List TapeEvent) (e : TapeEvent) (x : A) → of e ≡ x ∷ [] → Contains events e → Contains (flat_map of events) x
given_by {A} of events e x is there =
    let at = place_of events e there in
    let split : flat_map of events ≡ flat_map of at.before ++ x ∷ flat_map of at.after =
    ap (flat_map of) at.is ∙ flat_map-append of at.before (e ∷ at.after) ∙ ap (λ (xs : List A). flat_map of at.before ++ (xs ++ flat_map of at.after)) is in
    subst (λ (xs : List A). Contains xs x) (sym split) (Contains-split (flat_map of at.before) (flat_map of at.after) x)

contains_later : {A : Type 0} (y : A) (xs : List A) (x : A) → Contains xs x → Contains (y ∷ xs) x
contains_later y xs x (k, l, e) = (suc k, omega (arith, l), e)

-- what was submitted, an event submits: this one, or one behind it
submitted_first : (q : ℕ) (what : Recorded) (events : List TapeEvent) (c : Command) → (Contains (flat_map submitted_by events) c → (p : ℕ) × Contains events (submits p c))
    → Contains (submitted_by (of_node q what) ++ flat_map submitted_by events) c → (p : ℕ) × Contains (of_node q what ∷ events) (submits p c)
submitted_first q (tape.Told (input.Submit d)) events c more (zero, l, e) = (q, (0, omega arith, let same : d ≡ c = e in ap (submits q) same))
submitted_first q (tape.Told (input.Submit d)) events c more (suc k, l, e) = let r = more (k, omega (arith, l), e) in (r.0, contains_later (submits q d) events (submits r.0 c) r.1)
submitted_first q what events c more h = let r = more h in (r.0, contains_later (of_node q what) events (submits r.0 c) r.1)

submitted_by_event : (events : List TapeEvent) (c : Command) → Contains (flat_map submitted_by events) c → (p : ℕ) × Contains events (submits p c)
submitted_by_event [] c (k, l, e) = absurd (omega (arith, l))
submitted_by_event (e ∷ events) c h = submitted_first e.node e.what events c (submitted_by_event events c) h

contains_right : {A : Type 0} (xs ys : List A) (y : A) → Contains ys y → Contains (xs ++ ys) y
contains_right [] ys y h = h
contains_right (x ∷ xs) ys y h = contains_later x (xs ++ ys) y (contains_right xs ys y h)

module _ (n : ℕ) (events : List TapeEvent) (r : IsTapeRun n events) where
  acknowledged : (before : List TapeEvent) (w : World) → w.trace ≡ (end_of (openings n)).trace ++ flat_map told_by before → (p : ℕ) (q : RequestNo) (reply : Reply) → Contains before (acks p q reply) → Contains w.trace (Acknowledged p q reply)
  acknowledged before w told p q reply there =
      subst (λ (ts : List Told). Contains ts (Acknowledged p q reply)) (sym told)
      (contains_right (end_of (openings n)).trace (flat_map told_by before) (Acknowledged p q reply) (given_by told_by before (acks p q reply) (Acknowledged p q reply) refl there))

  says : (p k i : ℕ) (m : Message) (v : Command) → Contains events (sends p k m) → m.body ≡ Decision i v → Says (end_of (openings n ++ r.steps)).wire m.from (Decision i v)
  says p k i m v there is = (
    m.to,
    subst (λ (x : Message). Contains (end_of (openings n ++ r.steps)).wire x) (ap (λ b. record { from = m.from; to = m.to; body = b }) is)
        (subst (λ (ms : List Message). Contains ms m) (sym r.wire) (given_by sent_by events (sends p k m) m refl there)),
  )

  in_real_time : (list : List Command) → IsDecidedList n (end_of (openings n ++ r.steps)).wire list → (before after : List TapeEvent) → events ≡ before ++ after
      → (p : ℕ) (q : RequestNo) (reply : Reply) → Contains before (acks p q reply) → (v : Command) → ((at : ℕ) → Contains before (submits at v) → ⊥)
      → (k : ℕ) → slice_get list k ≡ Some v → reply_of (take k list) q ≡ Some reply
  in_real_time list decided before after split p q reply there v new k at =
      let c = cut before after (new_replay n) r.at_the_end r.steps (subst (λ (es : List TapeEvent). Leads es (new_replay n) r.steps r.at_the_end) split r.leads) in
      let w = whole n before c.first c.here c.leads in
      let parts : openings n ++ r.steps ≡ (openings n ++ c.first) ++ c.second = ap (λ (xs : List Step). openings n ++ xs) c.split ∙ sym (append_assoc (openings n) c.first c.second) in
      later_commands_stand_behind n (openings n ++ r.steps) r.is_a_run (openings n ++ c.first) c.second parts p q reply
      (acknowledged before (end_of (openings n ++ c.first)) w.told p q reply there) list decided v
      (λ was. let s = submitted_by_event before v (subst (λ (cs : List Command). Contains cs v) w.submitted was) in new s.0 s.1)
      k at

  pub agrees : AgreesWithOneList n events
  agrees =
      let s = r.is_sound in
      let list = s.a_decided_list_exists in
      let none : openings n ++ r.steps ≡ (openings n ++ r.steps) ++ [] = sym (append-nil (openings n ++ r.steps)) in
      record {
        list = list.0;
        decided = subst (λ (ms : List Message). IsDecidedList n ms list.0) r.wire list.1;
        submitted = λ c there. submitted_by_event events c (subst (λ (cs : List Command). Contains cs c) r.submitted (s.its_commands_were_submitted list.0 list.1 c there));
        replies = λ p q reply there. s.acknowledged_replies_are_its_own list.0 list.1 p q reply (acknowledged events (end_of (openings n ++ r.steps)) r.told p q reply there);
        decisions = λ p q j k i m o v w here there e f. s.one_command_is_chosen i v w
            (s.what_decisions_say_is_chosen (openings n ++ r.steps) [] none m.from i v (says p j i m v here e))
            (s.what_decisions_say_is_chosen (openings n ++ r.steps) [] none o.from i w (says q k i o w there f));
        real_time = in_real_time list.0 list.1;
      }

-- ---- as the audit goes on

-- one more event
pub leads_more : (events : List TapeEvent) (old mid : Replay) (steps : List Step) (e : TapeEvent) (next : IsNext mid e) → Leads events old steps mid
    → Leads (events ++ e ∷ []) old (steps ++ steps_of_event e.node next.state next.does) (replayed e next.state next.does mid)
leads_more [] old mid steps e next (none, same) =
    let is : steps ++ steps_of_event e.node next.state next.does ≡ steps_of_event e.node next.state next.does ++ [] = ap (λ (xs : List Step). xs ++ steps_of_event e.node next.state next.does) none ∙ sym (append-nil (steps_of_event e.node next.state next.does)) in
    subst (λ (o : Replay). Leads (e ∷ []) o (steps ++ steps_of_event e.node next.state next.does) (replayed e next.state next.does mid)) same
    (next, [], is, (refl, refl))
leads_more (d ∷ events) old mid steps e next (first, rest, split, leads) = (
  first,
  rest ++ steps_of_event e.node next.state next.does,
  ap (λ (xs : List Step). xs ++ steps_of_event e.node next.state next.does) split ∙ append_assoc (steps_of_event d.node first.state first.does) rest (steps_of_event e.node next.state next.does),
  leads_more events (replayed d first.state first.does old) mid rest e next leads,
)
