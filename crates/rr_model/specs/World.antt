-- The world: what was said, submitted and kept, the steps that may happen there, and the runs of such steps.
use Rattle.std.specs.Prelude.{◌≡◌, ℕ, ◌≤◌, ◌<◌, Bool, true, false, ◌==◌, if◌then◌else◌, List, [], ◌∷◌, ◌++◌, length, take, drop, map, Some}
use Rattle.std.specs.List.{Contains, fold, range_with_len}
use Rattle.std.specs.Option.{some_prefix}
use Rattle.rr_types.specs.declared.command.Command.{Command}
use Rattle.rr_types.specs.declared.command.RequestNo.{RequestNo}
use Rattle.rr_types.specs.declared.command.Reply.{Reply}
use Rattle.rr_types.specs.declared.fact.Fact.{Fact}
use Rattle.rr_types.specs.declared.message.Body.TheVariants.{Request}
use Rattle.rr_types.specs.declared.message.Message.{Message}
use Rattle.rr_types.specs.Facts.{standing_of, decision_of}
use Rattle.rr_types.specs.Registry.{Bindings, registry_of, reply_of}
use Rattle.rr_model.specs.Lawful.{Heard, IsLawful, IsBacked}

-- what a node lets others know
pub data Told : Type 0 where
  -- a message on the wire
  Sent : (m : Message) → Told
  -- to a client, the reply to its request
  Acknowledged : (p : ℕ) → (q : RequestNo) → (reply : Reply) → Told
  -- at a restart, of how many commands its registry is, and the registry
  Reported : (p : ℕ) → (count : ℕ) → (entries : Bindings) → Told

-- a world. Nodes, instances, rounds and stamps are numbers of any size, and each list has the oldest first
pub record World : Type 0 where
  -- all messages ever sent
  pub wire : List Message
  -- all commands that clients ever submitted
  pub submitted : List Command
  -- for each node the facts that no crash loses
  pub kept : ℕ → List Fact
  -- and behind them the facts that a crash may lose
  pub staged : ℕ → List Fact
  -- what each node heard since its restart
  pub heard : ℕ → Heard
  -- which nodes are up
  pub is_up : ℕ → Bool
  -- all that was told
  pub trace : List Told

-- nothing has been heard
abbrev pub nothing_heard : Heard
nothing_heard = record { messages = []; commands = [] }

-- the world before anything happened: every node is down
abbrev pub empty_world : World
empty_world = record { wire = []; submitted = []; kept = λ p. []; staged = λ p. []; heard = λ p. nothing_heard; is_up = λ p. false; trace = [] }

-- a step at node p. Losses and repeats need none: a message may be heard never, or often
pub data Step : Type 0 where
  -- a client submits a command
  Submit : (p : ℕ) → (c : Command) → Step
  -- the node hears a message of the wire
  Hear : (p : ℕ) → (m : Message) → Step
  -- the node stages a fact
  Stage : (p : ℕ) → (f : Fact) → Step
  -- the first so many of its staged facts are kept from now on
  Settle : (p : ℕ) → (count : ℕ) → Step
  -- the node sends a message
  Send : (p : ℕ) → (m : Message) → Step
  -- the node tells a client the reply to its request
  Acknowledge : (p : ℕ) → (q : RequestNo) → (reply : Reply) → Step
  -- the node crashes, or a call on its disk fails
  GoDown : (p : ℕ) → Step
  -- the node restarts: the crash kept the first so many of its staged facts, and lost the rest
  Restart : (p : ℕ) → (count : ℕ) → Step

-- the contiguous decided commands of the facts from instance 0. A fact decides one instance, so there are at most as many
abbrev pub decided_prefix : List Fact → List Command
decided_prefix facts = some_prefix (map (λ i. decision_of (standing_of i facts)) (range_with_len 0 (length facts)))

-- node p of n is up
abbrev pub IsUp : ℕ → World → ℕ → Type 0
IsUp n w p = (p < n) × (w.is_up p ≡ true)

-- where a step may happen, among n nodes. A request that a node sends on is for a command that some client submitted
abbrev pub MayHappen : ℕ → World → Step → Type 0
MayHappen n w (Submit p c) = IsUp n w p
MayHappen n w (Hear p m) = IsUp n w p × Contains w.wire m × (m.to ≡ p)
MayHappen n w (Stage p f) = IsUp n w p × IsLawful n p (w.kept p ++ w.staged p) (w.heard p) f
MayHappen n w (Settle p count) = IsUp n w p × (count ≤ length (w.staged p))
MayHappen n w (Send p m) =
    IsUp n w p × (m.from ≡ p) × IsBacked m.body (w.kept p) × ((c : Command) → m.body ≡ Request c → Contains w.submitted c)
MayHappen n w (Acknowledge p q reply) = IsUp n w p × (reply_of (decided_prefix (w.kept p)) q ≡ Some reply)
MayHappen n w (GoDown p) = IsUp n w p
MayHappen n w (Restart p count) = (p < n) × (w.is_up p ≡ false) × (count ≤ length (w.staged p))

-- the function with this value at p
abbrev pub with_at : {A : Type 0} → (ℕ → A) → ℕ → A → ℕ → A
with_at f p x q = if q == p then x else f q

-- the world after a step
abbrev pub after_step : World → Step → World
after_step w (Submit p c) =
    let heard = record (w.heard p) { commands = (w.heard p).commands ++ c ∷ [] } in
    record w { submitted = w.submitted ++ c ∷ []; heard = with_at w.heard p heard }
after_step w (Hear p m) =
    let heard = record (w.heard p) { messages = (w.heard p).messages ++ m ∷ [] } in
    record w { heard = with_at w.heard p heard }
after_step w (Stage p f) = record w { staged = with_at w.staged p (w.staged p ++ f ∷ []) }
after_step w (Settle p count) =
    let kept = w.kept p ++ take count (w.staged p) in
    record w { kept = with_at w.kept p kept; staged = with_at w.staged p (drop count (w.staged p)) }
after_step w (Send p m) = record w { wire = w.wire ++ m ∷ []; trace = w.trace ++ Sent m ∷ [] }
after_step w (Acknowledge p q reply) = record w { trace = w.trace ++ Acknowledged p q reply ∷ [] }
after_step w (GoDown p) = record w { heard = with_at w.heard p nothing_heard; is_up = with_at w.is_up p false }
after_step w (Restart p count) =
    let kept = w.kept p ++ take count (w.staged p) in
    let prefix = decided_prefix kept in
    record w {
      kept = with_at w.kept p kept;
      staged = with_at w.staged p [];
      is_up = with_at w.is_up p true;
      trace = w.trace ++ Reported p (length prefix) (registry_of prefix) ∷ [];
    }

-- each step may happen where it stands, among n nodes, from this world on
abbrev pub IsRunFrom : ℕ → World → List Step → Type 0
IsRunFrom n w [] = Unit {0}
IsRunFrom n w (s ∷ ss) = MayHappen n w s × IsRunFrom n (after_step w s) ss

-- the steps are a run of n nodes from the empty world
abbrev pub IsRun : ℕ → List Step → Type 0
IsRun n steps = IsRunFrom n empty_world steps

-- the world at the end of a run. Its trace has the run's sends, acknowledgements and restart reports, in order
abbrev pub end_of : List Step → World
end_of steps = fold after_step empty_world steps
