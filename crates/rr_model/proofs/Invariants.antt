-- The invariant of runs: the empty world has it, and each step of the world keeps it.
use Rattle.std.proofs.Common.{◌≡◌, ℕ, ◌<◌, inl, inr, List, [], ◌∷◌, ◌++◌, length, take, drop, Contains, Option, None, Some, IsTrue, refl, ap, sym, ◌∙◌, subst, arith, append_assoc, append-nil, take-append-drop, if◌then◌else◌, eq-eqb}
use Rattle.std.proofs.lemmas.Bool.{false≢true}
use Rattle.std.proofs.lemmas.Option.{none-some, same_Some}
use Rattle.std.proofs.lemmas.List.Elements.{Contains-append_left, Contains-push_cases, Contains-push}
use Rattle.rr_types.specs.declared.command.Command.{Command}
use Rattle.rr_types.specs.declared.command.RequestNo.{RequestNo}
use Rattle.rr_types.specs.declared.command.Reply.{Reply}
use Rattle.rr_types.specs.declared.fact.Fact.{Fact}
use Rattle.rr_types.specs.declared.fact.Fact.TheVariants.{Enter, Propose, Adopt, Decide}
use Rattle.rr_types.specs.declared.promise.Standing.{Standing}
use Rattle.rr_types.specs.declared.promise.Standing.TheVariants.{Decided, Open}
use Rattle.rr_types.specs.declared.message.Body.{Body}
use Rattle.rr_types.specs.declared.message.Body.TheVariants.{Estimate, Proposal, Ack, Decision, Request, Nack, Beat, Suspects, Ask}
use Rattle.rr_types.specs.declared.message.Message.{Message}
use Rattle.rr_types.specs.Rounds.{Estimated, coordinator_of}
use Rattle.rr_types.specs.Facts.{instance_of, standing_of}
use Rattle.rr_types.specs.Standings.{is_undecided, estimate_of, stamp_of, proposal_of, round_of}
use Rattle.rr_types.specs.Registry.{reply_of, registry_of}
use Rattle.rr_model.specs.Lawful.{Heard, Says, HasMajority, IsBacked}
use Rattle.rr_model.proofs.Permitted.{command_in, EntersWith, MayDecide, IsPermitted, lawful_permitted}
use Rattle.rr_model.specs.World.{World, Acknowledged, Reported, Step, Submit, Hear, Stage, Settle, Send, Acknowledge, GoDown, Restart, MayHappen, after_step, empty_world, nothing_heard, with_at, decided_prefix, IsRunFrom}
use Rattle.rr_model.specs.NodeLaws.{hear_message, hear_command}
use Rattle.rr_model.specs.Laws.{settled, after_steps}
use Rattle.rr_model.specs.Sound.{IsChosen}
use Rattle.rr_model.proofs.Quorums.{majorities_meet}
use Rattle.rr_model.proofs.Histories.{History, OnOpen, history_front}
use Rattle.rr_model.proofs.Kept.{proposals_stand, proposers_coordinate, commands_ok, AreOk, Names, occurs_ok, IsProposedOrOver, later, behind}
use Rattle.rr_model.proofs.Locking.{AtPlace, at_place, after_propose, Grounded}
use Rattle.rr_model.proofs.Growth.{Within, lawful_grows, history_grows, history_push, chosen_grows, backed_grows, at_each, at_each_two}
use Rattle.rr_model.proofs.Prefixes.{Begins, begins_itself, prefix_grows}
use Rattle.rr_model.proofs.Truths.{Truthful, truthful_grows, truthful_sent, truthful_acknowledged, truthful_reported}

-- all that was ever said
abbrev pub all_said : World → Heard
all_said w = record { messages = w.wire; commands = w.submitted }

-- what stays true through a run
pub record Invariant (n : ℕ) (w : World) : Type 0 where
  pub heard : (p : ℕ) → Within (w.heard p) (all_said w)
  pub history : (p : ℕ) → History n p (all_said w) (w.kept p ++ w.staged p)
  pub backed : (m : Message) → Contains w.wire m → IsBacked m.body (w.kept m.from)
  pub names : Names (Contains w.submitted) (all_said w)
  pub decides : (p i : ℕ) (v : Command) → Contains (w.kept p ++ w.staged p) (Decide i v) → IsChosen n w.wire i v
  pub told : Truthful w.trace (λ p. decided_prefix (w.kept p))

no_member : {A : Type 0} → (x : A) → Contains [] x → ⊥
no_member x c = let l : c.0 < 0 = c.1 in omega arith

pub no_place : {A : Type 0} → (a b : List A) (x : A) → [] ≡ a ++ x ∷ b → ⊥
no_place [] b x e = cc
no_place (y ∷ a) b x e = cc

-- the empty world
pub at_start : (n : ℕ) → Invariant n empty_world
at_start n = record {
  heard = λ p. record { messages = λ m c. c; commands = λ m c. c };
  history = λ p. record { lawful = λ a f b e. absurd (no_place a b f e) };
  backed = λ m c. absurd (no_member m c);
  names = record { messages = λ m v c e. absurd (no_member m c); commands = λ v c. c };
  decides = λ p i v c. absurd (no_member (Decide i v) c);
  told = record {
    acknowledged = λ p q r c. absurd (no_member (Acknowledged p q r) c);
    reported = λ p count entries c. absurd (no_member (Reported p count entries) c);
    held = λ a b p count entries e. absurd (no_place a b (Reported p count entries) e);
  };
}

-- what was kept backs the wire
pub grounded : (n : ℕ) (w : World) → Invariant n w → Grounded n (all_said w) w.kept
grounded n w I = record {
  history = λ p. history_front n p (all_said w) (w.kept p) (w.staged p) (I.history p);
  backed = I.backed;
}

-- a command submitted
pub after_submit : (n : ℕ) (w : World) (p : ℕ) (c : Command) → Invariant n w → Invariant n (after_step w (Submit p c))
after_submit n w p c I =
    let more : Within (all_said w) (all_said (after_step w (Submit p c))) = record { messages = λ m x. x; commands = λ d x. Contains-append_left w.submitted (c ∷ []) d x } in
    record {
      heard = at_each (λ q h. Within h (all_said (after_step w (Submit p c)))) w.heard p (hear_command (w.heard p) c)
          (record {
            messages = λ m x. (I.heard p).messages m x;
            commands = λ d x. elim (Contains-push_cases (w.heard p).commands c d x) [
              | inl y ↦ Contains-append_left w.submitted (c ∷ []) d ((I.heard p).commands d y)
              | inr e ↦ subst (Contains (w.submitted ++ c ∷ [])) e (Contains-push w.submitted c)
            ];
          })
          (λ q. record { messages = λ m x. (I.heard q).messages m x; commands = λ d x. Contains-append_left w.submitted (c ∷ []) d ((I.heard q).commands d x) });
      history = λ q. history_grows (all_said w) (all_said (after_step w (Submit p c))) more n q (w.kept q ++ w.staged q) (I.history q);
      backed = I.backed;
      names = record { messages = λ m v x e. Contains-append_left w.submitted (c ∷ []) v (I.names.messages m v x e); commands = λ v x. x };
      decides = I.decides;
      told = I.told;
    }

-- a message heard
pub after_hear : (n : ℕ) (w : World) (p : ℕ) (m : Message) → Contains w.wire m → Invariant n w → Invariant n (after_step w (Hear p m))
after_hear n w p m c I = record {
  heard = at_each (λ q h. Within h (all_said w)) w.heard p (hear_message (w.heard p) m)
      (record {
        messages = λ k x. elim (Contains-push_cases (w.heard p).messages m k x) [
          | inl y ↦ (I.heard p).messages k y
          | inr e ↦ subst (Contains w.wire) e c
        ];
        commands = (I.heard p).commands;
      })
      I.heard;
  history = I.history;
  backed = I.backed;
  names = I.names;
  decides = I.decides;
  told = I.told;
}

-- the proposal that the node decides by acknowledgements is the one on the wire
acknowledged_is_chosen : (n : ℕ) (w : World) (p i : ℕ) (v : Command) (s : Option Standing) → Invariant n w → standing_of i (w.kept p ++ w.staged p) ≡ s → proposal_of s ≡ Some v → HasMajority n (λ q. Says w.wire q (Ack i (round_of s))) → IsChosen n w.wire i v
acknowledged_is_chosen n w p i v None I e prop acks = absurd (none-some v prop)
acknowledged_is_chosen n w p i v (Some (Decided u)) I e prop acks = absurd (none-some v prop)
acknowledged_is_chosen n w p i v (Some (Open o)) I e prop acks =
    let all : Heard = all_said w in
    let facts : List Fact = w.kept p ++ w.staged p in
    let G : Grounded n (all_said w) w.kept = grounded n w I in
    let r : ℕ = o.round in
    let c : ℕ = coordinator_of o.round n in
    let self : p ≡ coordinator_of o.round n =
    (subst (OnOpen (λ z. (u : Command) → z.proposal ≡ Some u → p ≡ coordinator_of z.round n) (Unit {0})) e (behind n p (all_said w) i (λ z. (u : Command) → z.proposal ≡ Some u → p ≡ coordinator_of z.round n) (proposers_coordinate n p (all_said w) i) (w.kept p ++ w.staged p) (I.history p))) v prop in
    let both : (q : ℕ) × (q < n) × Says w.wire q (Ack i o.round) × Says w.wire q (Ack i o.round) = majorities_meet n (λ q. Says w.wire q (Ack i o.round)) (λ q. Says w.wire q (Ack i o.round)) acks acks in
    let adopted : (u : Command) × Contains (w.kept both.0) (Adopt i o.round u) = I.backed _ (both.2).1 in
    let x : AtPlace n both.0 (all_said w) (w.kept both.0) (Adopt i o.round adopted.0) = at_place n both.0 (all_said w) (w.kept both.0) (Adopt i o.round adopted.0) (G.history both.0) adopted.1 in
    let said : Says w.wire (coordinator_of o.round n) (Proposal i o.round adopted.0) = x.lawful.2 in
    let made : Contains (w.kept (coordinator_of o.round n)) (Propose i o.round adopted.0) = I.backed _ said.1 in
    let mine : Contains (w.kept p ++ w.staged p) (Propose i o.round adopted.0) = Contains-append_left (w.kept p) (w.staged p) _ (subst (λ z. Contains (w.kept z) (Propose i o.round adopted.0)) (sym self) made) in
    let y : AtPlace n p (all_said w) (w.kept p ++ w.staged p) (Propose i o.round adopted.0) = at_place n p (all_said w) (w.kept p ++ w.staged p) (Propose i o.round adopted.0) (I.history p) mine in
    let stands : OnOpen (IsProposedOrOver o.round adopted.0) ⊥ (standing_of i (w.kept p ++ w.staged p)) =
    later n p (all_said w) i (IsProposedOrOver o.round adopted.0) (proposals_stand n p (all_said w) i o.round adopted.0) y.before (Propose i o.round adopted.0) y.after (w.kept p ++ w.staged p) (I.history p) y.is refl (after_propose (IsProposedOrOver o.round adopted.0) (standing_of i y.before) i o.round adopted.0 y.lawful.0 (λ z l. inl (l, refl))) in
    let same : adopted.0 ≡ v = same_command (subst (OnOpen (IsProposedOrOver o.round adopted.0) ⊥) e stands) in
    record { round = o.round; proposer = coordinator_of o.round n; proposed = subst (λ z. Says w.wire (coordinator_of o.round n) (Proposal i o.round z)) same said; acknowledged = acks }
  where
    same_command : {u : Command} → IsProposedOrOver o.round u o → u ≡ v
    same_command {u} (inl z) = same_Some u v (sym z.1 ∙ prop)
    same_command {u} (inr z) = absurd (omega arith)

decide_is_chosen : (n : ℕ) (w : World) (p i : ℕ) (v : Command) → Invariant n w → MayDecide n (standing_of i (w.kept p ++ w.staged p)) (w.heard p) i v → IsChosen n w.wire i v
decide_is_chosen n w p i v I (inl d) = I.decides d.0 i v (Contains-append_left (w.kept d.0) (w.staged d.0) (Decide i v) (I.backed _ ((I.heard p).messages _ (d.1).1)))
decide_is_chosen n w p i v I (inr d) = acknowledged_is_chosen n w p i v (standing_of i (w.kept p ++ w.staged p)) I refl d.0 (heard_acks d.1)
  where
    heard_acks : HasMajority n (λ q. Says (w.heard p).messages q (Ack i (round_of (standing_of i (w.kept p ++ w.staged p))))) → HasMajority n (λ q. Says w.wire q (Ack i (round_of (standing_of i (w.kept p ++ w.staged p)))))
    heard_acks h = record { members = h.members; enough = h.enough; each = λ q l m. let s : Says (w.heard p).messages q (Ack i (round_of (standing_of i (w.kept p ++ w.staged p)))) = h.each q l m in (s.0, (I.heard p).messages _ s.1) }

staged_is_chosen : (n : ℕ) (w : World) (p : ℕ) (f : Fact) → Invariant n w → IsPermitted n p (w.kept p ++ w.staged p) (w.heard p) f → (i : ℕ) (v : Command) → f ≡ Decide i v → IsChosen n w.wire i v
staged_is_chosen n w p f I l i v e =
    let d : IsPermitted n p (w.kept p ++ w.staged p) (w.heard p) (Decide i v) = subst (IsPermitted n p (w.kept p ++ w.staged p) (w.heard p)) e l in
    decide_is_chosen n w p i v I d.1

-- a fact staged
pub after_stage : (n : ℕ) (w : World) (p : ℕ) (f : Fact) → IsPermitted n p (w.kept p ++ w.staged p) (w.heard p) f → Invariant n w → Invariant n (after_step w (Stage p f))
after_stage n w p f l I = record {
  heard = I.heard;
  history = at_each (λ q s. History n q (all_said w) (w.kept q ++ s)) w.staged p (w.staged p ++ f ∷ [])
      (subst (History n p (all_said w)) (append_assoc (w.kept p) (w.staged p) (f ∷ [])) (history_push n p (all_said w) (w.kept p ++ w.staged p) f (I.history p) (lawful_grows (w.heard p) (all_said w) (I.heard p) n p (standing_of (instance_of f) (w.kept p ++ w.staged p)) f l)))
      I.history;
  backed = I.backed;
  names = I.names;
  decides = at_each (λ q s. (i : ℕ) (v : Command) → Contains (w.kept q ++ s) (Decide i v) → IsChosen n w.wire i v) w.staged p (w.staged p ++ f ∷ [])
      (λ i v c. elim (Contains-push_cases (w.kept p ++ w.staged p) f (Decide i v) (subst (λ z. Contains z (Decide i v)) (sym (append_assoc (w.kept p) (w.staged p) (f ∷ []))) c)) [
        | inl x ↦ I.decides p i v x
        | inr e ↦ staged_is_chosen n w p f I l i v e
      ])
      I.decides;
  told = I.told;
}

pub settled_whole : (w : World) (p count : ℕ) → settled w p count ++ drop count (w.staged p) ≡ w.kept p ++ w.staged p
settled_whole w p count = append_assoc (w.kept p) (take count (w.staged p)) (drop count (w.staged p)) ∙ ap (λ z. w.kept p ++ z) (take-append-drop count (w.staged p))

pub settled_history : (n : ℕ) (w : World) (p count : ℕ) → Invariant n w → History n p (all_said w) (settled w p count)
settled_history n w p count I = history_front n p (all_said w) (settled w p count) (drop count (w.staged p)) (subst (History n p (all_said w)) (sym (settled_whole w p count)) (I.history p))

settled_backed : (n : ℕ) (w : World) (p count : ℕ) → Invariant n w → (m : Message) → Contains w.wire m → IsBacked m.body (with_at w.kept p (settled w p count) m.from)
settled_backed n w p count I m c = at_each (λ q s. m.from ≡ q → IsBacked m.body s) w.kept p (settled w p count)
    (λ e. backed_grows m.body (w.kept p) (take count (w.staged p)) (subst (λ z. IsBacked m.body (w.kept z)) e (I.backed m c)))
    (λ q e. subst (λ z. IsBacked m.body (w.kept z)) e (I.backed m c)) m.from refl

settled_begins : (n : ℕ) (w : World) (p count : ℕ) → Invariant n w → (q : ℕ) → Begins (decided_prefix (w.kept q)) (decided_prefix (with_at w.kept p (settled w p count) q))
settled_begins n w p count I = at_each (λ q s. Begins (decided_prefix (w.kept q)) (decided_prefix s)) w.kept p (settled w p count)
    (prefix_grows n p (all_said w) (w.kept p) (take count (w.staged p)) (settled_history n w p count I))
    (λ q. begins_itself (decided_prefix (w.kept q)))

settled_told : (n : ℕ) (w : World) (p count : ℕ) → Invariant n w → Truthful w.trace (λ q. decided_prefix (with_at w.kept p (settled w p count) q))
settled_told n w p count I = truthful_grows w.trace (λ q. decided_prefix (w.kept q)) (λ q. decided_prefix (with_at w.kept p (settled w p count) q)) (settled_begins n w p count I) I.told

-- staged facts settled
pub after_settle : (n : ℕ) (w : World) (p count : ℕ) → Invariant n w → Invariant n (after_step w (Settle p count))
after_settle n w p count I = record {
  heard = I.heard;
  history = at_each_two (λ q k s. History n q (all_said w) (k ++ s)) w.kept w.staged p (settled w p count) (drop count (w.staged p))
      (subst (History n p (all_said w)) (sym (settled_whole w p count)) (I.history p))
      I.history;
  backed = settled_backed n w p count I;
  names = I.names;
  decides = at_each_two (λ q k s. (i : ℕ) (v : Command) → Contains (k ++ s) (Decide i v) → IsChosen n w.wire i v) w.kept w.staged p (settled w p count) (drop count (w.staged p))
      (λ i v c. I.decides p i v (subst (λ z. Contains z (Decide i v)) (settled_whole w p count) c))
      I.decides;
  told = settled_told n w p count I;
}

entered_command : (Ok : Command → Type 0) (h : Heard) (s : Option Standing) (e : Estimated) → Names Ok h → OnOpen (AreOk Ok) (Unit {0}) s → IsTrue (is_undecided s) → EntersWith (estimate_of s) (stamp_of s) h e → Ok e.command
entered_command Ok h None e N q u l = occurs_ok Ok h e.command N l.1
entered_command Ok h (Some (Decided v)) e N q u l = absurd (false≢true u)
entered_command Ok h (Some (Open o)) e N q u l = subst Ok (sym l.0) q.estimate

decided_command : (Ok : Command → Type 0) (n : ℕ) (h : Heard) (s : Option Standing) (i : ℕ) (v : Command) → Names Ok h → OnOpen (AreOk Ok) (Unit {0}) s → MayDecide n s h i v → Ok v
decided_command Ok n h s i v N q (inl d) = N.messages _ v (d.1).1 refl
decided_command Ok n h None i v N q (inr d) = absurd (none-some v d.0)
decided_command Ok n h (Some (Decided u)) i v N q (inr d) = absurd (none-some v d.0)
decided_command Ok n h (Some (Open o)) i v N q (inr d) = q.proposal v d.0

-- the command that a backed message names was submitted
backed_command : (n : ℕ) (w : World) (p : ℕ) (b : Body) (v : Command) → Invariant n w → IsBacked b (w.kept p) → ((c : Command) → b ≡ Request c → Contains w.submitted c) → command_in b ≡ Some v → Contains w.submitted v
backed_command n w p (Estimate i e) v I c s eq =
    let G : Grounded n (all_said w) w.kept = grounded n w I in
    let x : AtPlace n p (all_said w) (w.kept p) (Enter i e) = at_place n p (all_said w) (w.kept p) (Enter i e) (G.history p) c in
    let ok : Contains w.submitted e.command = entered_command (Contains w.submitted) (all_said w) (standing_of i x.before) e I.names (behind n p (all_said w) i (AreOk (Contains w.submitted)) (commands_ok (Contains w.submitted) n p (all_said w) i I.names) x.before x.history) x.lawful.0 x.lawful.2 in
    subst (Contains w.submitted) (same_Some e.command v eq) ok
backed_command n w p (Proposal i r u) v I c s eq =
    let G : Grounded n (all_said w) w.kept = grounded n w I in
    let x : AtPlace n p (all_said w) (w.kept p) (Propose i r u) = at_place n p (all_said w) (w.kept p) (Propose i r u) (G.history p) c in
    subst (Contains w.submitted) (same_Some u v eq) (I.names.messages _ u (x.lawful.3).said.1 refl)
backed_command n w p (Ack i r) v I c s eq = absurd (none-some v eq)
backed_command n w p (Decision i u) v I c s eq =
    let G : Grounded n (all_said w) w.kept = grounded n w I in
    let x : AtPlace n p (all_said w) (w.kept p) (Decide i u) = at_place n p (all_said w) (w.kept p) (Decide i u) (G.history p) c in
    let ok : Contains w.submitted u = decided_command (Contains w.submitted) n (all_said w) (standing_of i x.before) i u I.names (behind n p (all_said w) i (AreOk (Contains w.submitted)) (commands_ok (Contains w.submitted) n p (all_said w) i I.names) x.before x.history) x.lawful.1 in
    subst (Contains w.submitted) (same_Some u v eq) ok
backed_command n w p (Request u) v I c s eq = subst (Contains w.submitted) (same_Some u v eq) (s u refl)
backed_command n w p (Nack i r) v I c s eq = absurd (none-some v eq)
backed_command n w p Beat v I c s eq = absurd (none-some v eq)
backed_command n w p (Suspects set) v I c s eq = absurd (none-some v eq)
backed_command n w p (Ask i) v I c s eq = absurd (none-some v eq)

-- a message sent
pub after_send : (n : ℕ) (w : World) (p : ℕ) (m : Message) → m.from ≡ p → IsBacked m.body (w.kept p) → ((c : Command) → m.body ≡ Request c → Contains w.submitted c) → Invariant n w → Invariant n (after_step w (Send p m))
after_send n w p m from back sub I =
    let more : Within (all_said w) (all_said (after_step w (Send p m))) = record { messages = λ k x. Contains-append_left w.wire (m ∷ []) k x; commands = λ d x. x } in
    record {
      heard = λ q. record { messages = λ k x. Contains-append_left w.wire (m ∷ []) k ((I.heard q).messages k x); commands = (I.heard q).commands };
      history = λ q. history_grows (all_said w) (all_said (after_step w (Send p m))) more n q (w.kept q ++ w.staged q) (I.history q);
      backed = λ k c. elim (Contains-push_cases w.wire m k c) [
        | inl x ↦ I.backed k x
        | inr e ↦ subst (λ z. IsBacked z.body (w.kept z.from)) e (subst (λ z. IsBacked m.body (w.kept z)) (sym from) back)
      ];
      names = record {
        messages = λ k v c e. elim (Contains-push_cases w.wire m k c) [
          | inl x ↦ I.names.messages k v x e
          | inr is ↦ backed_command n w p m.body v I back sub (ap (λ (z : Message). command_in z.body) is ∙ e)
        ];
        commands = λ v c. c;
      };
      decides = λ q i v c. chosen_grows n w.wire (w.wire ++ m ∷ []) (λ k x. Contains-append_left w.wire (m ∷ []) k x) i v (I.decides q i v c);
      told = truthful_sent w.trace (λ q. decided_prefix (w.kept q)) m I.told;
    }

-- a request acknowledged
pub after_acknowledge : (n : ℕ) (w : World) (p : ℕ) (q : RequestNo) (reply : Reply) → reply_of (decided_prefix (w.kept p)) q ≡ Some reply → Invariant n w → Invariant n (after_step w (Acknowledge p q reply))
after_acknowledge n w p q reply e I = record {
  heard = I.heard;
  history = I.history;
  backed = I.backed;
  names = I.names;
  decides = I.decides;
  told = truthful_acknowledged w.trace (λ z. decided_prefix (w.kept z)) p q reply e I.told;
}

-- a node gone down
pub after_down : (n : ℕ) (w : World) (p : ℕ) → Invariant n w → Invariant n (after_step w (GoDown p))
after_down n w p I = record {
  heard = at_each (λ q h. Within h (all_said w)) w.heard p nothing_heard (record { messages = λ m c. absurd (no_member m c); commands = λ d c. absurd (no_member d c) }) I.heard;
  history = I.history;
  backed = I.backed;
  names = I.names;
  decides = I.decides;
  told = I.told;
}

with_at_same : {A : Type 0} → (f : ℕ → A) (p : ℕ) (x : A) → with_at f p x p ≡ x
with_at_same f p x = ap (λ b. if b then x else f p) (eq-eqb p p refl)

restarted_told : (n : ℕ) (w : World) (p count : ℕ) → Invariant n w → Truthful (after_step w (Restart p count)).trace (λ q. decided_prefix (with_at w.kept p (settled w p count) q))
restarted_told n w p count I =
    subst (λ z. Truthful (w.trace ++ Reported p (length z) (registry_of z) ∷ []) (λ q. decided_prefix (with_at w.kept p (settled w p count) q)))
    (ap decided_prefix (with_at_same w.kept p (settled w p count)))
    (truthful_reported w.trace (λ q. decided_prefix (with_at w.kept p (settled w p count) q)) p (settled_told n w p count I))

-- a node restarted
pub after_restart : (n : ℕ) (w : World) (p count : ℕ) → Invariant n w → Invariant n (after_step w (Restart p count))
after_restart n w p count I = record {
  heard = I.heard;
  history = at_each_two (λ q k s. History n q (all_said w) (k ++ s)) w.kept w.staged p (settled w p count) []
      (subst (History n p (all_said w)) (sym (append-nil (settled w p count))) (settled_history n w p count I))
      I.history;
  backed = settled_backed n w p count I;
  names = I.names;
  decides = at_each_two (λ q k s. (i : ℕ) (v : Command) → Contains (k ++ s) (Decide i v) → IsChosen n w.wire i v) w.kept w.staged p (settled w p count) []
      (λ i v c. I.decides p i v (subst (λ z. Contains z (Decide i v)) (settled_whole w p count) (Contains-append_left (settled w p count) (drop count (w.staged p)) (Decide i v) (subst (λ z. Contains z (Decide i v)) (append-nil (settled w p count)) c))))
      I.decides;
  told = restarted_told n w p count I;
}

-- each step keeps the invariant
pub after_each : (n : ℕ) (w : World) (s : Step) → MayHappen n w s → Invariant n w → Invariant n (after_step w s)
after_each n w (Submit p c) h I = after_submit n w p c I
after_each n w (Hear p m) h I = after_hear n w p m h.1 I
after_each n w (Stage p f) h I = after_stage n w p f (lawful_permitted n p (standing_of (instance_of f) (w.kept p ++ w.staged p)) (w.heard p) f h.1) I
after_each n w (Settle p count) h I = after_settle n w p count I
after_each n w (Send p m) h I = after_send n w p m h.1 h.2 h.3 I
after_each n w (Acknowledge p q reply) h I = after_acknowledge n w p q reply h.1 I
after_each n w (GoDown p) h I = after_down n w p I
after_each n w (Restart p count) h I = after_restart n w p count I

-- and so does a run
pub after_all : (n : ℕ) (w : World) (steps : List Step) → IsRunFrom n w steps → Invariant n w → Invariant n (after_steps w steps)
after_all n w [] r I = I
after_all n w (s ∷ ss) r I = after_all n (after_step w s) ss r.1 (after_each n w s r.0 I)
