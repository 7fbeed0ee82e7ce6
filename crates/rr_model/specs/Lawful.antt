-- When a fact is lawful for a node, after its other facts and what it heard; and which facts back a message.
use Rattle.std.specs.Prelude.{◌≡◌, ℕ, ◌≤◌, ◌<◌, ◌⊎◌, Bool, true, if◌then◌else◌, zero, suc, List, Option, None, Some}
use Rattle.std.specs.List.{Contains}
use Rattle.rr_types.specs.declared.command.Command.{Command}
use Rattle.rr_types.specs.declared.fact.Fact.{Fact}
use Rattle.rr_types.specs.declared.fact.Fact.TheVariants.{Enter, Propose, Adopt, Decide}
use Rattle.rr_types.specs.declared.promise.Standing.{Standing}
use Rattle.rr_types.specs.declared.promise.Standing.TheVariants.{Decided, Open}
use Rattle.rr_types.specs.declared.message.Body.{Body}
use Rattle.rr_types.specs.declared.message.Body.TheVariants.{Estimate, Proposal, Ack, Decision, Request, Nack, Beat, Suspects, Ask}
use Rattle.rr_types.specs.declared.message.Message.{Message}
use Rattle.rr_types.specs.Rounds.{majority_of, coordinator_of}
use Rattle.rr_types.specs.Facts.{instance_of, standing_of}

-- what a node has heard since its restart: messages, and commands that clients submitted to it
pub record Heard : Type 0 where
  pub messages : List Message
  pub commands : List Command

-- among these messages is one from node q that says this, whomever it is for
abbrev pub Says : List Message → ℕ → Body → Type 0
Says ms q body = (to : ℕ) × Contains ms (record { from = q; to = to; body = body })

-- the command occurs in what was heard: a message names it, or a client submitted it here
pub data Occurs (h : Heard) (v : Command) : Type 0 where
  InEstimate : (q i r t : ℕ) → Says h.messages q (Estimate i (record { round = r; stamp = t; command = v })) → Occurs h v
  InProposal : (q i r : ℕ) → Says h.messages q (Proposal i r v) → Occurs h v
  InDecision : (q i : ℕ) → Says h.messages q (Decision i v) → Occurs h v
  InRequest : (q : ℕ) → Says h.messages q (Request v) → Occurs h v
  Submitted : Contains h.commands v → Occurs h v

-- how many of the nodes below n are in the set
abbrev pub count_below : (ℕ → Bool) → ℕ → ℕ
count_below set zero = 0
count_below set (suc n) = if set n then suc (count_below set n) else count_below set n

-- distinct nodes below n, more than half of them, each of which has the property
pub record HasMajority (n : ℕ) (Has : ℕ → Type 0) : Type 0 where
  pub members : ℕ → Bool
  pub enough : majority_of n ≤ count_below members n
  pub each : (q : ℕ) → q < n → members q ≡ true → Has q

-- among the messages is node q's estimate for round r of instance i, with a stamp of at most t
pub record HasEstimate (ms : List Message) (i r t q : ℕ) : Type 0 where
  pub stamp : ℕ
  pub command : Command
  pub said : Says ms q (Estimate i (record { round = r; stamp = stamp; command = command }))
  pub older : stamp ≤ t

-- the messages hold estimates of a majority for round r of instance i, and v is one of largest stamp among these
pub record IsOfLargestStamp (n i r : ℕ) (ms : List Message) (v : Command) : Type 0 where
  pub stamp : ℕ
  pub sender : ℕ
  pub said : Says ms sender (Estimate i (record { round = r; stamp = stamp; command = v }))
  pub majority : HasMajority n (HasEstimate ms i r stamp)
  pub exists : sender < n
  pub member : majority.members sender ≡ true

-- a fact of node p of n is lawful where its instance stands so, after what the node heard: the four phases of a round
-- (Chandra and Toueg 1996), with a crash at any moment (Aguilera, Chen and Toueg 2000). No fact follows a decision
abbrev pub IsLawfulAt : ℕ → ℕ → Option Standing → Heard → Fact → Type 0
IsLawfulAt n p (Some (Decided w)) h f = ⊥
IsLawfulAt n p None h (Enter i e) = (0 < e.round) × (e.stamp ≡ 0) × Occurs h e.command
IsLawfulAt n p None h (Propose i r v) = ⊥
IsLawfulAt n p None h (Adopt i r v) = ⊥
IsLawfulAt n p None h (Decide i v) = (q : ℕ) × Says h.messages q (Decision i v)
IsLawfulAt n p (Some (Open o)) h (Enter i e) = (o.round < e.round) × (e.stamp ≡ o.stamp) × (e.command ≡ o.estimate)
IsLawfulAt n p (Some (Open o)) h (Propose i r v) =
    (o.round ≡ r) × (p ≡ coordinator_of r n) × (o.proposal ≡ None) × IsOfLargestStamp n i r h.messages v
IsLawfulAt n p (Some (Open o)) h (Adopt i r v) =
    (o.round ≡ r) × (o.stamp < r) × Says h.messages (coordinator_of r n) (Proposal i r v)
IsLawfulAt n p (Some (Open o)) h (Decide i v) =
    ((q : ℕ) × Says h.messages q (Decision i v)) ⊎ ((o.proposal ≡ Some v) × HasMajority n (λ q. Says h.messages q (Ack i o.round)))

-- a fact of node p of n is lawful after these facts, oldest first, and what the node heard
abbrev pub IsLawful : ℕ → ℕ → List Fact → Heard → Fact → Type 0
IsLawful n p facts h f = IsLawfulAt n p (standing_of (instance_of f) facts) h f

-- the facts back a message: an estimate, a proposal, an acknowledgement or a decision needs its fact, the others are free
abbrev pub IsBacked : Body → List Fact → Type 0
IsBacked (Estimate i e) facts = Contains facts (Enter i e)
IsBacked (Proposal i r v) facts = Contains facts (Propose i r v)
IsBacked (Ack i r) facts = (v : Command) × Contains facts (Adopt i r v)
IsBacked (Decision i v) facts = Contains facts (Decide i v)
IsBacked (Request c) facts = Unit {0}
IsBacked (Nack i r) facts = Unit {0}
IsBacked Beat facts = Unit {0}
IsBacked (Suspects set) facts = Unit {0}
IsBacked (Ask i) facts = Unit {0}
