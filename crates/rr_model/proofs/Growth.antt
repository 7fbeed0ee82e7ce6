-- What is lawful, chosen or backed stays so where more was heard, sent or kept.
use Rattle.std.proofs.Common.{◌≡◌, ℕ, ◌⊎◌, inl, inr, Bool, true, false, ◌==◌, if◌then◌else◌, List, [], ◌∷◌, ◌++◌, Contains, Option, None, Some, refl, sym, subst, eqb-true}
use Rattle.std.proofs.lemmas.List.Elements.{Contains-append_left}
use Rattle.rr_types.specs.declared.command.Command.{Command}
use Rattle.rr_types.specs.declared.fact.Fact.{Fact}
use Rattle.rr_types.specs.declared.fact.Fact.TheVariants.{Enter, Propose, Adopt, Decide}
use Rattle.rr_types.specs.declared.promise.Standing.{Standing}
use Rattle.rr_types.specs.declared.message.Body.{Body}
use Rattle.rr_types.specs.declared.message.Body.TheVariants.{Estimate, Proposal, Ack, Decision, Request, Nack, Beat, Suspects, Ask}
use Rattle.rr_types.specs.declared.message.Message.{Message}
use Rattle.rr_types.specs.Rounds.{Estimated}
use Rattle.rr_types.specs.Facts.{instance_of, standing_of}
use Rattle.rr_types.specs.Standings.{stamp_of, estimate_of, round_of}
use Rattle.rr_model.specs.Lawful.{Heard, Says, HasEstimate, IsOfLargestStamp, IsBacked}
use Rattle.rr_model.proofs.Permitted.{IsNamed, EntersWith, MayDecide, IsPermittedAt, IsPermitted}
use Rattle.rr_model.specs.World.{with_at}
use Rattle.rr_model.specs.Sound.{IsChosen}
use Rattle.rr_model.proofs.Places.{place_push}
use Rattle.rr_model.proofs.Quorums.{majority_of_weaker}
use Rattle.rr_model.proofs.Histories.{History}

-- all that the one heard, the other heard too
pub record Within (h g : Heard) : Type 0 where
  pub messages : (m : Message) → Contains h.messages m → Contains g.messages m
  pub commands : (c : Command) → Contains h.commands c → Contains g.commands c

estimate_grows : (h g : Heard) → Within h g → (i r t q : ℕ) → HasEstimate h.messages i r t q → HasEstimate g.messages i r t q
estimate_grows h g W i r t q e = record { stamp = e.stamp; command = e.command; said = (e.said.0, W.messages _ e.said.1); older = e.older }

largest_grows : (h g : Heard) → Within h g → (n i r : ℕ) (v : Command) → IsOfLargestStamp n i r h.messages v → IsOfLargestStamp n i r g.messages v
largest_grows h g W n i r v b = record {
  stamp = b.stamp;
  sender = b.sender;
  said = (b.said.0, W.messages _ b.said.1);
  majority = record { members = b.majority.members; enough = b.majority.enough; each = λ q l m. estimate_grows h g W i r b.stamp q (b.majority.each q l m) };
  exists = b.exists;
  member = b.member;
}

occurs_grows : (h g : Heard) → Within h g → (v : Command) → IsNamed h v → IsNamed g v
occurs_grows h g W v (inl m) = inl (m.0, W.messages m.0 m.1, m.2)
occurs_grows h g W v (inr c) = inr (W.commands v c)

enters_grows : (h g : Heard) → Within h g → (o : Option Command) (t : ℕ) (e : Estimated) → EntersWith o t h e → EntersWith o t g e
enters_grows h g W None t e x = (x.0, occurs_grows h g W e.command x.1)
enters_grows h g W (Some v) t e x = x

decide_grows : (h g : Heard) → Within h g → (n : ℕ) (s : Option Standing) (i : ℕ) (v : Command) → MayDecide n s h i v → MayDecide n s g i v
decide_grows h g W n s i v (inl d) = inl (d.0, ((d.1).0, W.messages _ (d.1).1))
decide_grows h g W n s i v (inr d) = inr (d.0, majority_of_weaker n (λ q. Says h.messages q (Ack i (round_of s))) (λ q. Says g.messages q (Ack i (round_of s))) (λ q x. (x.0, W.messages _ x.1)) d.1)

-- what is lawful stays lawful where more was heard
pub lawful_grows : (h g : Heard) → Within h g → (n p : ℕ) (s : Option Standing) (f : Fact) → IsPermittedAt n p s h f → IsPermittedAt n p s g f
lawful_grows h g W n p s (Enter i e) l = (l.0, l.1, enters_grows h g W (estimate_of s) (stamp_of s) e l.2)
lawful_grows h g W n p s (Propose i r v) l = (l.0, l.1, l.2, largest_grows h g W n i r v l.3)
lawful_grows h g W n p s (Adopt i r v) l = (l.0, l.1, ((l.2).0, W.messages _ (l.2).1))
lawful_grows h g W n p s (Decide i v) l = (l.0, decide_grows h g W n s i v l.1)

pub history_grows : (h g : Heard) → Within h g → (n p : ℕ) (facts : List Fact) → History n p h facts → History n p g facts
history_grows h g W n p facts H = record { lawful = λ a f b e. lawful_grows h g W n p (standing_of (instance_of f) a) f (H.lawful a f b e) }

pub history_push_at : (n p : ℕ) (h : Heard) (facts : List Fact) (f : Fact) → History n p h facts → IsPermitted n p facts h f → (a b : List Fact) (g : Fact) → ((a ≡ facts) × (g ≡ f)) ⊎ ((rest : List Fact) × (facts ≡ a ++ g ∷ rest)) → IsPermitted n p a h g
history_push_at n p h facts f H l a b g (inl s) = subst (λ z. IsPermitted n p z h g) (sym s.0) (subst (λ z. IsPermitted n p facts h z) (sym s.1) l)
history_push_at n p h facts f H l a b g (inr r) = H.lawful a g r.0 r.1

-- a lawful fact behind a history
pub history_push : (n p : ℕ) (h : Heard) (facts : List Fact) (f : Fact) → History n p h facts → IsPermitted n p facts h f → History n p h (facts ++ f ∷ [])
history_push n p h facts f H l = record { lawful = λ a g b e. history_push_at n p h facts f H l a b g (place_push a b facts g f e) }

-- what is chosen stays chosen where more is on the wire
pub chosen_grows : (n : ℕ) (ms ns : List Message) → ((m : Message) → Contains ms m → Contains ns m) → (i : ℕ) (v : Command) → IsChosen n ms i v → IsChosen n ns i v
chosen_grows n ms ns W i v c = record {
  round = c.round;
  proposer = c.proposer;
  proposed = ((c.proposed).0, W _ (c.proposed).1);
  acknowledged = majority_of_weaker n (λ q. Says ms q (Ack i c.round)) (λ q. Says ns q (Ack i c.round)) (λ q x. (x.0, W _ x.1)) c.acknowledged;
}

-- facts back what fewer facts backed
pub backed_grows : (b : Body) (facts more : List Fact) → IsBacked b facts → IsBacked b (facts ++ more)
backed_grows (Estimate i e) facts more c = Contains-append_left facts more _ c
backed_grows (Proposal i r v) facts more c = Contains-append_left facts more _ c
backed_grows (Ack i r) facts more c = (c.0, Contains-append_left facts more _ c.1)
backed_grows (Decision i v) facts more c = Contains-append_left facts more _ c
backed_grows (Request c) facts more x = tt
backed_grows (Nack i r) facts more x = tt
backed_grows Beat facts more x = tt
backed_grows (Suspects set) facts more x = tt
backed_grows (Ask i) facts more x = tt

at_one : {A : Type 0} → (Q : ℕ → A → Type 0) (f : ℕ → A) (p : ℕ) (x : A) → Q p x → ((q : ℕ) → Q q (f q)) → (q : ℕ) (b : Bool) → (q == p) ≡ b → Q q (if b then x else f q)
at_one Q f p x here there q true e = subst (λ z. Q z x) (sym (eqb-true _ _ e)) here
at_one Q f p x here there q false e = there q

-- what holds of the new value at p, and of each old value, holds everywhere
pub at_each : {A : Type 0} → (Q : ℕ → A → Type 0) (f : ℕ → A) (p : ℕ) (x : A) → Q p x → ((q : ℕ) → Q q (f q)) → (q : ℕ) → Q q (with_at f p x q)
at_each Q f p x here there q = at_one Q f p x here there q (q == p) refl

at_two : {A B : Type 0} → (Q : ℕ → A → B → Type 0) (f : ℕ → A) (g : ℕ → B) (p : ℕ) (x : A) (y : B) → Q p x y → ((q : ℕ) → Q q (f q) (g q)) → (q : ℕ) (b : Bool) → (q == p) ≡ b → Q q (if b then x else f q) (if b then y else g q)
at_two Q f g p x y here there q true e = subst (λ z. Q z x y) (sym (eqb-true _ _ e)) here
at_two Q f g p x y here there q false e = there q

-- the same of two functions
pub at_each_two : {A B : Type 0} → (Q : ℕ → A → B → Type 0) (f : ℕ → A) (g : ℕ → B) (p : ℕ) (x : A) (y : B) → Q p x y → ((q : ℕ) → Q q (f q) (g q)) → (q : ℕ) → Q q (with_at f p x q) (with_at g p y q)
at_each_two Q f g p x y here there q = at_two Q f g p x y here there q (q == p) refl
