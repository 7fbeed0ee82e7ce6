-- Lawfulness by the kind of fact first, over the parts of a standing, and that it is lawfulness as defined.
use Rattle.std.proofs.Common.{◌≡◌, ℕ, ◌<◌, ◌⊎◌, inl, inr, IsTrue, List, Contains, Option, None, Some, refl, sym, ◌∙◌, subst}
use Rattle.std.proofs.lemmas.Bool.{false≢true}
use Rattle.std.proofs.lemmas.Option.{none-some, same_Some}
use Rattle.rr_types.specs.declared.command.Command.{Command}
use Rattle.rr_types.specs.declared.fact.Fact.{Fact}
use Rattle.rr_types.specs.declared.fact.Fact.TheVariants.{Enter, Propose, Adopt, Decide}
use Rattle.rr_types.specs.declared.promise.Standing.{Standing}
use Rattle.rr_types.specs.declared.promise.Standing.TheVariants.{Decided, Open}
use Rattle.rr_types.specs.declared.message.Body.{Body}
use Rattle.rr_types.specs.declared.message.Body.TheVariants.{Estimate, Proposal, Ack, Decision, Request, Nack, Beat, Suspects, Ask}
use Rattle.rr_types.specs.declared.message.Message.{Message}
use Rattle.rr_types.specs.Rounds.{Estimated, coordinator_of}
use Rattle.rr_types.specs.Facts.{instance_of, standing_of}
use Rattle.rr_types.specs.Standings.{is_undecided, round_of, stamp_of, estimate_of, proposal_of}
use Rattle.rr_model.specs.Lawful.{Heard, Says, HasMajority, IsOfLargestStamp, Occurs, InEstimate, InProposal, InDecision, InRequest, Submitted, IsLawfulAt}

-- the command that a message names: an estimate, a proposal, a decision or a request names one
abbrev pub command_in : Body → Option Command
command_in (Estimate i e) = Some e.command
command_in (Proposal i r v) = Some v
command_in (Ack i r) = None
command_in (Decision i v) = Some v
command_in (Request c) = Some c
command_in (Nack i r) = None
command_in Beat = None
command_in (Suspects set) = None
command_in (Ask i) = None

-- the command occurs in what was heard: a message names it, or a client submitted it here
abbrev pub IsNamed : Heard → Command → Type 0
IsNamed h v = ((m : Message) × Contains h.messages m × (command_in m.body ≡ Some v)) ⊎ Contains h.commands v

-- the instance is undecided and in round r
abbrev pub IsInRound : Option Standing → ℕ → Type 0
IsInRound None r = ⊥
IsInRound (Some (Decided v)) r = ⊥
IsInRound (Some (Open o)) r = o.round ≡ r

-- a node enters a round with the estimate and stamp that it has, or, where it has none, with a command that it heard, and stamp 0
abbrev pub EntersWith : Option Command → ℕ → Heard → Estimated → Type 0
EntersWith (Some v) stamp h e = (e.command ≡ v) × (e.stamp ≡ stamp)
EntersWith None stamp h e = (e.stamp ≡ 0) × IsNamed h e.command

-- a reason to decide v: somebody's decision, or the node's own proposal of the present round with acknowledgements of a majority
abbrev pub MayDecide : ℕ → Option Standing → Heard → ℕ → Command → Type 0
MayDecide n s h i v = ((q : ℕ) × Says h.messages q (Decision i v)) ⊎ ((proposal_of s ≡ Some v) × HasMajority n (λ q. Says h.messages q (Ack i (round_of s))))

-- lawfulness by the kind of fact first, over the parts of a standing: the form that the proofs speak in
abbrev pub IsPermittedAt : ℕ → ℕ → Option Standing → Heard → Fact → Type 0
IsPermittedAt n p s h (Enter i e) = IsTrue (is_undecided s) × (round_of s < e.round) × EntersWith (estimate_of s) (stamp_of s) h e
IsPermittedAt n p s h (Propose i r v) = IsInRound s r × (p ≡ coordinator_of r n) × (proposal_of s ≡ None) × IsOfLargestStamp n i r h.messages v
IsPermittedAt n p s h (Adopt i r v) = IsInRound s r × (stamp_of s < r) × Says h.messages (coordinator_of r n) (Proposal i r v)
IsPermittedAt n p s h (Decide i v) = IsTrue (is_undecided s) × MayDecide n s h i v

-- a fact of node p of n is so permitted after these facts, oldest first, and what the node heard
abbrev pub IsPermitted : ℕ → ℕ → List Fact → Heard → Fact → Type 0
IsPermitted n p facts h f = IsPermittedAt n p (standing_of (instance_of f) facts) h f

-- a command that occurs is named
pub occurs_named : (h : Heard) (v : Command) → Occurs h v → IsNamed h v
occurs_named h v (InEstimate q i r t s) = inl (_, s.1, refl)
occurs_named h v (InProposal q i r s) = inl (_, s.1, refl)
occurs_named h v (InDecision q i s) = inl (_, s.1, refl)
occurs_named h v (InRequest q s) = inl (_, s.1, refl)
occurs_named h v (Submitted c) = inr c

in_body : (h : Heard) (v : Command) (from to : ℕ) (b : Body) → Contains h.messages (record { from = from; to = to; body = b }) → command_in b ≡ Some v → Occurs h v
in_body h v from to (Estimate i e) c n = InEstimate from i e.round e.stamp (to, subst (λ z. Contains h.messages (record { from = from; to = to; body = Estimate i (record { round = e.round; stamp = e.stamp; command = z }) })) (same_Some e.command v n) c)
in_body h v from to (Proposal i r w) c n = InProposal from i r (to, subst (λ z. Contains h.messages (record { from = from; to = to; body = Proposal i r z })) (same_Some w v n) c)
in_body h v from to (Ack i r) c n = absurd (none-some v n)
in_body h v from to (Decision i w) c n = InDecision from i (to, subst (λ z. Contains h.messages (record { from = from; to = to; body = Decision i z })) (same_Some w v n) c)
in_body h v from to (Request w) c n = InRequest from (to, subst (λ z. Contains h.messages (record { from = from; to = to; body = Request z })) (same_Some w v n) c)
in_body h v from to (Nack i r) c n = absurd (none-some v n)
in_body h v from to Beat c n = absurd (none-some v n)
in_body h v from to (Suspects set) c n = absurd (none-some v n)
in_body h v from to (Ask i) c n = absurd (none-some v n)

-- a command that is named occurs
pub named_occurs : (h : Heard) (v : Command) → IsNamed h v → Occurs h v
named_occurs h v (inl m) = in_body h v m.0.from m.0.to m.0.body m.1 m.2
named_occurs h v (inr c) = Submitted c

-- both forms of lawfulness say the same
pub lawful_permitted : (n p : ℕ) (s : Option Standing) (h : Heard) (f : Fact) → IsLawfulAt n p s h f → IsPermittedAt n p s h f
lawful_permitted n p None h (Enter i e) l = (refl, l.0, (l.1, occurs_named h e.command l.2))
lawful_permitted n p None h (Propose i r v) l = absurd l
lawful_permitted n p None h (Adopt i r v) l = absurd l
lawful_permitted n p None h (Decide i v) l = (refl, inl l)
lawful_permitted n p (Some (Decided w)) h f l = absurd l
lawful_permitted n p (Some (Open o)) h (Enter i e) l = (refl, l.0, (l.2, l.1))
lawful_permitted n p (Some (Open o)) h (Propose i r v) l = l
lawful_permitted n p (Some (Open o)) h (Adopt i r v) l = l
lawful_permitted n p (Some (Open o)) h (Decide i v) l = (refl, l)

by_messages : (n : ℕ) (s : Option Standing) (h : Heard) (i : ℕ) (v : Command) → proposal_of s ≡ None → MayDecide n s h i v → (q : ℕ) × Says h.messages q (Decision i v)
by_messages n s h i v none (inl d) = d
by_messages n s h i v none (inr d) = absurd (none-some v (sym none ∙ d.0))

pub permitted_lawful : (n p : ℕ) (s : Option Standing) (h : Heard) (f : Fact) → IsPermittedAt n p s h f → IsLawfulAt n p s h f
permitted_lawful n p None h (Enter i e) l = (l.1, l.2.0, named_occurs h e.command l.2.1)
permitted_lawful n p None h (Propose i r v) l = absurd l.0
permitted_lawful n p None h (Adopt i r v) l = absurd l.0
permitted_lawful n p None h (Decide i v) l = by_messages n None h i v refl l.1
permitted_lawful n p (Some (Decided w)) h (Enter i e) l = absurd (false≢true l.0)
permitted_lawful n p (Some (Decided w)) h (Propose i r v) l = absurd l.0
permitted_lawful n p (Some (Decided w)) h (Adopt i r v) l = absurd l.0
permitted_lawful n p (Some (Decided w)) h (Decide i v) l = absurd (false≢true l.0)
permitted_lawful n p (Some (Open o)) h (Enter i e) l = (l.1, l.2.1, l.2.0)
permitted_lawful n p (Some (Open o)) h (Propose i r v) l = l
permitted_lawful n p (Some (Open o)) h (Adopt i r v) l = l
permitted_lawful n p (Some (Open o)) h (Decide i v) l = l.1
