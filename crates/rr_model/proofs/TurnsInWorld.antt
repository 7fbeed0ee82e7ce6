-- A history with disks that are made anew takes the world along, and what holds at a moment of it by the invariant there.
use Rattle.std.proofs.Common.{◌≡◌, ℕ, inl, inr, List, [], ◌∷◌, ◌++◌, take, drop, Contains, Some, refl, ap, sym, ◌∙◌, subst, append-nil, append_assoc}
use Rattle.std.specs.List.{flat_map}
use Rattle.std.proofs.lemmas.List.Elements.{Contains-append_left}
use Rattle.std.proofs.lemmas.Option.{slice_get-get_or}
use Rattle.rr_types.specs.declared.command.Command.{Command}
use Rattle.rr_types.specs.declared.command.RequestNo.{RequestNo}
use Rattle.rr_types.specs.declared.command.Reply.{Reply}
use Rattle.rr_types.specs.declared.fact.Fact.TheVariants.{Decide}
use Rattle.rr_types.specs.declared.message.Body.{Body}
use Rattle.rr_types.specs.declared.message.Body.TheVariants.{Proposal, Ack, Decision}
use Rattle.rr_types.specs.declared.message.Message.{Message}
use Rattle.rr_types.specs.Registry.{reply_of}
use Rattle.rr_model.specs.Deeds.{Lives, nothing_done, after_deed, sent_by}
use Rattle.rr_model.specs.Lawful.{Says, IsBacked}
use Rattle.rr_model.specs.Laws.{after_steps, settled}
use Rattle.rr_model.specs.RenewedDisks.{Turn, Does, Renewed, after_turn, after_turns, MayTurn, AreTurnsFrom, deeds_of}
use Rattle.rr_model.specs.Sound.{IsChosen, IsChosenList, IsDecidedList}
use Rattle.rr_model.specs.World.{World, Acknowledged, empty_world, decided_prefix}
use Rattle.rr_model.specs.declared.deed.Deed.{Deed}
use Rattle.rr_model.proofs.DeedsInWorld.{told_by, submitted_by, IsAlike, SaysDecision, Took, takes, none_proper}
use Rattle.rr_model.proofs.Growth.{chosen_grows}
use Rattle.rr_model.proofs.Invariants.{all_said, at_start, grounded, settled_whole, settled_history}
use Rattle.rr_model.proofs.Listed.{begins_by_places}
use Rattle.rr_model.proofs.Locking.{one_chosen}
use Rattle.rr_model.proofs.Prefixes.{Begins, prefix_decides, prefix_grows}
use Rattle.rr_model.proofs.Quorums.{majority_of_weaker}
use Rattle.rr_model.proofs.Renews.{renewed_world, renews_alike}
use Rattle.rr_model.proofs.Replies.{same_reply}
use Rattle.rr_model.proofs.Shifted.{shifted_not}

-- ---- turns take the world along

pub starts_alike : (n : ℕ) → IsAlike n nothing_done empty_world
starts_alike n = record {
  lives = λ p. (record { down = refl; keeps = refl; stages = refl; heard = refl }, shifted_not n p []);
  wire = λ m c. c;
  extra = λ m c. inl c;
  proper = none_proper n;
  sound = at_start n;
}

-- a world that was taken along over these turns
pub record TookAll (n : ℕ) (ts : List Turn) (v : Lives) (w : World) : Type 0 where
  pub world : World
  pub alike : IsAlike n (after_turns n ts v) world
  pub told : world.trace ≡ w.trace ++ flat_map told_by (deeds_of ts)
  pub submitted : world.submitted ≡ w.submitted ++ flat_map submitted_by (deeds_of ts)

take_one : (n : ℕ) (t : Turn) (v : Lives) (w : World) → IsAlike n v w → MayTurn n v t → TookAll n (t ∷ []) v w
take_one n (Does d) v w A may =
    let t : Took n v d w = takes n v d w A may.0 may.1 in
    record {
      world = after_steps w t.steps;
      alike = t.alike;
      told = t.told ∙ ap (λ z. w.trace ++ z) (sym (append-nil (told_by d)));
      submitted = t.submitted ∙ ap (λ z. w.submitted ++ z) (sym (append-nil (submitted_by d)));
    }
take_one n (Renewed p list) v w A may = record { world = renewed_world p list w; alike = renews_alike n p list v w A may; told = sym (append-nil w.trace); submitted = sym (append-nil w.submitted) }

-- what one turn has, and then the others
turns_have : {A : Type 0} (of : Deed → List A) (t : Turn) (ts : List Turn) → flat_map of (deeds_of (t ∷ [])) ++ flat_map of (deeds_of ts) ≡ flat_map of (deeds_of (t ∷ ts))
turns_have of (Does d) ts = ap (λ z. z ++ flat_map of (deeds_of ts)) (append-nil (of d))
turns_have of (Renewed p list) ts = refl

pub take_all : (n : ℕ) (ts : List Turn) (v : Lives) (w : World) → IsAlike n v w → AreTurnsFrom n v ts → TookAll n ts v w
take_all n [] v w A h = record { world = w; alike = A; told = sym (append-nil w.trace); submitted = sym (append-nil w.submitted) }
take_all n (t ∷ ts) v w A h =
    let one : TookAll n (t ∷ []) v w = take_one n t v w A h.0 in
    let more : TookAll n ts (after_turn n t v) one.world = take_all n ts (after_turn n t v) one.world one.alike h.1 in
    record {
      world = more.world;
      alike = more.alike;
      told = more.told ∙ ap (λ z. z ++ flat_map told_by (deeds_of ts)) one.told ∙ append_assoc w.trace (flat_map told_by (deeds_of (t ∷ []))) (flat_map told_by (deeds_of ts)) ∙ ap (λ z. w.trace ++ z) (turns_have told_by t ts);
      submitted = more.submitted ∙ ap (λ z. z ++ flat_map submitted_by (deeds_of ts)) one.submitted ∙ append_assoc w.submitted (flat_map submitted_by (deeds_of (t ∷ []))) (flat_map submitted_by (deeds_of ts)) ∙ ap (λ z. w.submitted ++ z) (turns_have submitted_by t ts);
    }

-- turns up to a moment, and from there on
pub turns_front : (n : ℕ) (before after : List Turn) (v : Lives) → AreTurnsFrom n v (before ++ after) → AreTurnsFrom n v before × AreTurnsFrom n (after_turns n before v) after
turns_front n [] after v h = (tt, h)
turns_front n (t ∷ before) after v h = let r = turns_front n before after (after_turn n t v) h.1 in ((h.0, r.0), r.1)

pub turns_append : (n : ℕ) (a b : List Turn) (v : Lives) → after_turns n (a ++ b) v ≡ after_turns n b (after_turns n a v)
turns_append n [] b v = refl
turns_append n (t ∷ a) b v = turns_append n a b (after_turn n t v)

-- all messages of turns
pub turns_wire : (n : ℕ) (ts : List Turn) (v : Lives) → (after_turns n ts v).wire ≡ v.wire ++ flat_map sent_by (deeds_of ts)
turns_wire n [] v = sym (append-nil v.wire)
turns_wire n (Does d ∷ ts) v = turns_wire n ts (after_deed n d v) ∙ append_assoc v.wire (sent_by d) (flat_map sent_by (deeds_of ts))
turns_wire n (Renewed p list ∷ ts) v = turns_wire n ts (after_turn n (Renewed p list) v)

-- ---- at a moment

module _ (n : ℕ) (v : Lives) (w : World) (A : IsAlike n v w) where
  -- what the world has on the wire beside decisions was sent
  said_here : (q : ℕ) (b : Body) → (SaysDecision b → ⊥) → Says w.wire q b → Says v.wire q b
  said_here q b other s = (
    s.0,
    elim (A.extra _ s.1) [
      | inl x ↦ x
      | inr x ↦ absurd (other x)
    ],
  )

  -- so what is chosen there is chosen
  pub chosen_here : (i : ℕ) (u : Command) → IsChosen n w.wire i u → IsChosen n v.wire i u
  chosen_here i u c = record {
    round = c.round;
    proposer = c.proposer;
    proposed = said_here c.proposer (Proposal i c.round u) (λ x. x) c.proposed;
    acknowledged = majority_of_weaker n (λ q. Says w.wire q (Ack i c.round)) (λ q. Says v.wire q (Ack i c.round)) (λ q x. said_here q (Ack i c.round) (λ y. y) x) c.acknowledged;
  }

  chosen_there : (i : ℕ) (u : Command) → IsChosen n v.wire i u → IsChosen n w.wire i u
  chosen_there i u c = chosen_grows n v.wire w.wire A.wire i u c

  -- one command is chosen for an instance
  pub one_here : (i : ℕ) (a b : Command) → IsChosen n v.wire i a → IsChosen n v.wire i b → a ≡ b
  one_here i a b x y = one_chosen n (all_said w) w.kept (grounded n w A.sound) i a b (chosen_there i a x) (chosen_there i b y)

  -- a list of chosen commands begins the decided one
  pub chosen_begins : (xs list : List Command) → IsChosenList n v.wire xs → IsDecidedList n v.wire list → Begins xs list
  chosen_begins xs list c d = begins_by_places xs list (d.longest xs c) (λ k a b x y. one_here k a b (c k a x) (d.chosen k b y))

  -- a command of the decided list was submitted
  pub list_submitted : (list : List Command) → IsDecidedList n v.wire list → (c : Command) → Contains list c → Contains w.submitted c
  list_submitted list d c k =
      let x : IsChosen n w.wire k.0 c = chosen_there k.0 c (d.chosen k.0 c (slice_get-get_or list k.0 c k.1 ∙ ap Some k.2)) in
      A.sound.names.messages _ c x.proposed.1 refl

  -- what a crash leaves of a node is chosen where it is decided
  pub left_chosen : (p count : ℕ) → IsChosenList n v.wire (decided_prefix (settled w p count))
  left_chosen p count i u e = chosen_here i u (A.sound.decides p i u
      (subst (λ z. Contains z (Decide i u)) (settled_whole w p count) (Contains-append_left (settled w p count) (drop count (w.staged p)) (Decide i u) (prefix_decides (settled w p count) i u e))))

  -- and it knows each reply that the node has acknowledged
  pub left_replies : (p count : ℕ) (q : RequestNo) (reply : Reply) → Contains w.trace (Acknowledged p q reply) → reply_of (decided_prefix (settled w p count)) q ≡ Some reply
  left_replies p count q reply told =
      let b : Begins (decided_prefix (w.kept p)) (decided_prefix (settled w p count)) = prefix_grows n p (all_said w) (w.kept p) (take count (w.staged p)) (settled_history n w p count A.sound) in
      subst (λ z. reply_of z q ≡ Some reply) b.is (same_reply (decided_prefix (w.kept p)) b.rest q reply (A.sound.told.acknowledged p q reply told))

  -- an acknowledged reply is that of the decided list
  pub list_replies : (list : List Command) → IsDecidedList n v.wire list → (p : ℕ) (q : RequestNo) (reply : Reply) → Contains w.trace (Acknowledged p q reply) → reply_of list q ≡ Some reply
  list_replies list d p q reply told =
      let b : Begins (decided_prefix (settled w p 0)) list = chosen_begins (decided_prefix (settled w p 0)) list (left_chosen p 0) d in
      subst (λ z. reply_of z q ≡ Some reply) b.is (same_reply (decided_prefix (settled w p 0)) b.rest q reply (left_replies p 0 q reply told))

  -- what a message says that an instance has decided is chosen
  pub decision_chosen : (m : Message) (i : ℕ) (u : Command) → Contains v.wire m → m.body ≡ Decision i u → IsChosen n v.wire i u
  decision_chosen m i u c e = chosen_here i u (A.sound.decides m.from i u
      (Contains-append_left (w.kept m.from) (w.staged m.from) (Decide i u) (subst (λ b. IsBacked b (w.kept m.from)) e (A.sound.backed m (A.wire m c)))))
