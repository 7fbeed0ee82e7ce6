-- A node of which the world keeps other facts than its own, by which each instance stands alike: its steps are steps of that world.
use Rattle.std.proofs.Common.{◌≡◌, ℕ, ◌≤◌, inl, inr, true, false, List, [], ◌∷◌, ◌++◌, length, take, drop, Contains, None, refl, ap, sym, ◌∙◌, subst, append_assoc}
use Rattle.std.proofs.lemmas.List.Elements.{Contains-append_cases, Contains-append_left, Contains-append_right}
use Rattle.rr_types.specs.declared.command.Command.{Command}
use Rattle.rr_types.specs.declared.command.Reply.{Reply}
use Rattle.rr_types.specs.declared.command.RequestNo.{RequestNo}
use Rattle.rr_types.specs.declared.fact.Fact.{Fact}
use Rattle.rr_types.specs.declared.message.Body.{Body}
use Rattle.rr_types.specs.declared.message.Message.{Message}
use Rattle.rr_types.specs.declared.message.Body.TheVariants.{Estimate, Proposal, Ack, Decision, Request, Nack, Beat, Suspects, Ask}
use Rattle.rr_types.specs.Facts.{instance_of, standing_of}
use Rattle.rr_types.specs.Promises as promises
use Rattle.rr_types.specs.Promises.{promise_of, all_fit}
use Rattle.rr_types.specs.Registry.{reply_of}
use Rattle.rr_types.specs.Standings.{standing_from}
use Rattle.rr_model.specs.Lawful.{Heard, IsLawful, IsLawfulAt, IsBacked}
use Rattle.rr_model.specs.Laws.{after_steps}
use Rattle.rr_model.specs.LostDisks.{StandAlike}
use Rattle.rr_model.specs.NodeInWorld.{IsInWorld, AreStepsAt, node_of}
use Rattle.rr_model.specs.NodeState.{NodeState}
use Rattle.rr_model.specs.World.{World, Step, Submit, Hear, Stage, Settle, Send, Acknowledge, GoDown, Restart, MayHappen, IsUp, nothing_heard, with_at, after_step, decided_prefix, IsRunFrom}
use Rattle.rr_model.proofs.Fits.{fit_both, fit_later}
use Rattle.rr_model.proofs.Frames.{stays_in_world}
use Rattle.rr_model.proofs.Histories.{standing_from-append}
use Rattle.rr_model.proofs.NodeFollows.{at_same}
use Rattle.rr_model.proofs.NodePrefixes.{same_prefix}
use Rattle.rr_model.proofs.Outweighed.{stand_alike}

-- ---- facts

-- the world keeps these facts of node p of n, which has marked those: both end alike, and before that they stand alike
pub record IsShifted (n p : ℕ) (kept marked : List Fact) : Type 0 where
  pub old : List Fact
  pub new : List Fact
  pub more : List Fact
  pub kept_is : kept ≡ old ++ more
  pub marked_is : marked ≡ new ++ more
  pub alike : StandAlike old new
  pub within : (f : Fact) → Contains new f → Contains old f
  pub fits : all_fit n p [] new ≡ true

pub shifted_not : (n p : ℕ) (facts : List Fact) → IsShifted n p facts facts
shifted_not n p facts = record { old = []; new = []; more = facts; kept_is = refl; marked_is = refl; alike = record { promise = refl; standings = λ i. refl }; within = λ f c. c; fits = refl }

-- and with further facts behind both
pub shifted_on : (n p : ℕ) (kept marked more : List Fact) → IsShifted n p kept marked → IsShifted n p (kept ++ more) (marked ++ more)
shifted_on n p kept marked more S = record {
  old = S.old;
  new = S.new;
  more = S.more ++ more;
  kept_is = ap (λ z. z ++ more) S.kept_is ∙ append_assoc S.old S.more more;
  marked_is = ap (λ z. z ++ more) S.marked_is ∙ append_assoc S.new S.more more;
  alike = S.alike;
  within = S.within;
  fits = S.fits;
}

module _ (n p : ℕ) (kept marked : List Fact) (S : IsShifted n p kept marked) where
  pub shifted_standings : (i : ℕ) → standing_of i kept ≡ standing_of i marked
  shifted_standings i =
      ap (standing_of i) S.kept_is ∙ standing_from-append None i S.old S.more ∙ ap (λ s. standing_from s i S.more) (S.alike.standings i)
      ∙ sym (standing_from-append None i S.new S.more) ∙ ap (standing_of i) (sym S.marked_is)

  shifted_promise : promise_of kept ≡ promise_of marked
  shifted_promise = (stand_alike kept marked shifted_standings).promise

  pub shifted_prefix : decided_prefix kept ≡ decided_prefix marked
  shifted_prefix = sym (same_prefix kept) ∙ ap (promises.decided_from 0) shifted_promise ∙ same_prefix marked

  pub shifted_within : (f : Fact) → Contains marked f → Contains kept f
  shifted_within f c = subst (λ z. Contains z f) (sym S.kept_is) (elim (Contains-append_cases S.new S.more f (subst (λ z. Contains z f) S.marked_is c)) [
    | inl x ↦ Contains-append_left S.old S.more f (S.within f x)
    | inr x ↦ Contains-append_right S.old S.more f x
  ])

  pub shifted_fits : all_fit n p [] kept ≡ true → all_fit n p [] marked ≡ true
  shifted_fits fit =
      let rest : all_fit n p (promise_of S.old) S.more ≡ true = fit_later n p [] S.old S.more (subst (λ z. all_fit n p [] z ≡ true) S.kept_is fit) in
      subst (λ z. all_fit n p [] z ≡ true) (sym S.marked_is) (fit_both n p [] S.new S.more S.fits (subst (λ z. all_fit n p z S.more ≡ true) S.alike.promise rest))

-- ---- steps

-- facts back a message where they hold those that back it
pub backed_within : (b : Body) (facts others : List Fact) → ((f : Fact) → Contains facts f → Contains others f) → IsBacked b facts → IsBacked b others
backed_within (Estimate i e) facts others W x = W _ x
backed_within (Proposal i r v) facts others W x = W _ x
backed_within (Ack i r) facts others W x = (x.0, W _ x.1)
backed_within (Decision i v) facts others W x = W _ x
backed_within (Request c) facts others W x = tt
backed_within (Nack i r) facts others W x = tt
backed_within Beat facts others W x = tt
backed_within (Suspects set) facts others W x = tt
backed_within (Ask i) facts others W x = tt

-- the first world is the second, but that it keeps the node's own facts
pub record IsShadow (n p : ℕ) (v w : World) : Type 0 where
  pub up : v.is_up ≡ w.is_up
  pub staged : v.staged ≡ w.staged
  pub heard : v.heard ≡ w.heard
  pub submitted : v.submitted ≡ w.submitted
  pub wire : v.wire ≡ w.wire
  pub shift : IsShifted n p (w.kept p) (v.kept p)

module _ (n p : ℕ) (v w : World) (S : IsShadow n p v w) where
  up_over : IsUp n v p → IsUp n w p
  up_over u = (u.0, ap (λ g. g p) (sym S.up) ∙ u.1)

  submit_over : (c : Command) → IsShadow n p (after_step v (Submit p c)) (after_step w (Submit p c))
  submit_over c = record {
    up = S.up;
    staged = S.staged;
    heard = ap (λ (g : ℕ → Heard). with_at g p (record (g p) { commands = (g p).commands ++ c ∷ [] })) S.heard;
    submitted = ap (λ cs. cs ++ c ∷ []) S.submitted;
    wire = S.wire;
    shift = S.shift;
  }

  hear_over : (m : Message) → IsShadow n p (after_step v (Hear p m)) (after_step w (Hear p m))
  hear_over m = record {
    up = S.up;
    staged = S.staged;
    heard = ap (λ (g : ℕ → Heard). with_at g p (record (g p) { messages = (g p).messages ++ m ∷ [] })) S.heard;
    submitted = S.submitted;
    wire = S.wire;
    shift = S.shift;
  }

  stage_over : (f : Fact) → IsShadow n p (after_step v (Stage p f)) (after_step w (Stage p f))
  stage_over f = record { up = S.up; staged = ap (λ g. with_at g p (g p ++ f ∷ [])) S.staged; heard = S.heard; submitted = S.submitted; wire = S.wire; shift = S.shift }

  -- facts kept from the staged ones
  kept_over : (count : ℕ) → IsShifted n p (with_at w.kept p (w.kept p ++ take count (w.staged p)) p) (with_at v.kept p (v.kept p ++ take count (v.staged p)) p)
  kept_over count =
      subst (λ z. IsShifted n p z (with_at v.kept p (v.kept p ++ take count (v.staged p)) p)) (sym (at_same w.kept p (w.kept p ++ take count (w.staged p))))
      (subst (λ z. IsShifted n p (w.kept p ++ take count (w.staged p)) z) (sym (at_same v.kept p (v.kept p ++ take count (v.staged p)) ∙ ap (λ g. v.kept p ++ take count (g p)) S.staged))
      (shifted_on n p (w.kept p) (v.kept p) (take count (w.staged p)) S.shift))

  settle_over : (count : ℕ) → IsShadow n p (after_step v (Settle p count)) (after_step w (Settle p count))
  settle_over count = record { up = S.up; staged = ap (λ g. with_at g p (drop count (g p))) S.staged; heard = S.heard; submitted = S.submitted; wire = S.wire; shift = kept_over count }

  send_over : (m : Message) → IsShadow n p (after_step v (Send p m)) (after_step w (Send p m))
  send_over m = record { up = S.up; staged = S.staged; heard = S.heard; submitted = S.submitted; wire = ap (λ ms. ms ++ m ∷ []) S.wire; shift = S.shift }

  tell_over : (q : RequestNo) (reply : Reply) → IsShadow n p (after_step v (Acknowledge p q reply)) (after_step w (Acknowledge p q reply))
  tell_over q reply = record { up = S.up; staged = S.staged; heard = S.heard; submitted = S.submitted; wire = S.wire; shift = S.shift }

  down_over : IsShadow n p (after_step v (GoDown p)) (after_step w (GoDown p))
  down_over = record { up = ap (λ g. with_at g p false) S.up; staged = S.staged; heard = ap (λ g. with_at g p nothing_heard) S.heard; submitted = S.submitted; wire = S.wire; shift = S.shift }

  restart_over : (count : ℕ) → IsShadow n p (after_step v (Restart p count)) (after_step w (Restart p count))
  restart_over count = record { up = ap (λ g. with_at g p true) S.up; staged = ap (λ g. with_at g p []) S.staged; heard = S.heard; submitted = S.submitted; wire = S.wire; shift = kept_over count }

  -- a staged fact is lawful by the facts of either
  lawful_over : (f : Fact) → IsLawful n p (v.kept p ++ v.staged p) (v.heard p) f → IsLawful n p (w.kept p ++ w.staged p) (w.heard p) f
  lawful_over f l =
      let same : standing_of (instance_of f) (v.kept p ++ v.staged p) ≡ standing_of (instance_of f) (w.kept p ++ w.staged p) =
      ap (λ (g : ℕ → List Fact). standing_of (instance_of f) (v.kept p ++ g p)) S.staged
      ∙ sym (shifted_standings n p (w.kept p ++ w.staged p) (v.kept p ++ w.staged p) (shifted_on n p (w.kept p) (v.kept p) (w.staged p) S.shift) (instance_of f)) in
      subst (λ (g : ℕ → Heard). IsLawfulAt n p (standing_of (instance_of f) (w.kept p ++ w.staged p)) (g p) f) S.heard
      (subst (λ z. IsLawfulAt n p z (v.heard p) f) same l)

-- a step of the first at the node is one of the second
step_over : (n : ℕ) (s : Step) (v w : World) → IsShadow n (node_of s) v w → MayHappen n v s → MayHappen n w s × IsShadow n (node_of s) (after_step v s) (after_step w s)
step_over n (Submit p c) v w S h = (up_over n p v w S h, submit_over n p v w S c)
step_over n (Hear p m) v w S h = ((up_over n p v w S h.0, subst (λ ms. Contains ms m) S.wire h.1, h.2), hear_over n p v w S m)
step_over n (Stage p f) v w S h = ((up_over n p v w S h.0, lawful_over n p v w S f h.1), stage_over n p v w S f)
step_over n (Settle p count) v w S h = ((up_over n p v w S h.0, subst (λ (g : ℕ → List Fact). count ≤ length (g p)) S.staged h.1), settle_over n p v w S count)
step_over n (Send p m) v w S h = (
  (up_over n p v w S h.0, h.1, backed_within m.body (v.kept p) (w.kept p) (shifted_within n p (w.kept p) (v.kept p) S.shift) h.2, λ c e. subst (λ cs. Contains cs c) S.submitted (h.3 c e)),
  send_over n p v w S m,
)
step_over n (Acknowledge p q reply) v w S h = ((up_over n p v w S h.0, ap (λ z. reply_of z q) (shifted_prefix n p (w.kept p) (v.kept p) S.shift) ∙ h.1), tell_over n p v w S q reply)
step_over n (GoDown p) v w S h = (up_over n p v w S h, down_over n p v w S)
step_over n (Restart p count) v w S h = ((h.0, ap (λ g. g p) (sym S.up) ∙ h.1, subst (λ (g : ℕ → List Fact). count ≤ length (g p)) S.staged h.2), restart_over n p v w S count)

pub steps_over : (n p : ℕ) (steps : List Step) (v w : World) → AreStepsAt p steps → IsShadow n p v w → IsRunFrom n v steps → IsRunFrom n w steps × IsShadow n p (after_steps v steps) (after_steps w steps)
steps_over n p [] v w own S r = (tt, S)
steps_over n p (s ∷ steps) v w own S r =
    let one : MayHappen n w s × IsShadow n (node_of s) (after_step v s) (after_step w s) = step_over n s v w (subst (λ z. IsShadow n z v w) (sym own.0) S) r.0 in
    let more : IsRunFrom n (after_step w s) steps × IsShadow n p (after_steps (after_step v s) steps) (after_steps (after_step w s) steps) =
    steps_over n p steps (after_step v s) (after_step w s) own.1 (subst (λ z. IsShadow n z (after_step v s) (after_step w s)) own.0 one.1) r.1 in
    ((one.0, more.0), more.1)

-- ---- the shade of a world

-- the world, with these facts kept of node p
abbrev pub shade_of : ℕ → List Fact → World → World
shade_of p marked w = record w { kept = with_at w.kept p marked }

pub shade_is_shadow : (n p : ℕ) (marked : List Fact) (w : World) → IsShifted n p (w.kept p) marked → IsShadow n p (shade_of p marked w) w
shade_is_shadow n p marked w S = record { up = refl; staged = refl; heard = refl; submitted = refl; wire = refl; shift = subst (IsShifted n p (w.kept p)) (sym (at_same w.kept p marked)) S }

-- the node is in the shade where it is in the shadow
pub in_shade : (n p : ℕ) (facts : List Fact) (h : Heard) (s : NodeState) (marked : List Fact) (v w : World) → IsShadow n p v w → v.kept p ≡ marked → IsInWorld false n p facts h s v → IsInWorld false n p facts h s (shade_of p marked w)
in_shade n p facts h s marked v w S k A = stays_in_world false n p facts h s v (shade_of p marked w)
    (record {
      up = ap (λ g. g p) (sym S.up);
      kept = at_same w.kept p marked ∙ sym k;
      staged = ap (λ g. g p) (sym S.staged);
      heard = ap (λ g. g p) (sym S.heard);
      submitted = λ c x. subst (λ cs. Contains cs c) S.submitted x;
      wire = λ m x. subst (λ ms. Contains ms m) S.wire x;
    })
    A
