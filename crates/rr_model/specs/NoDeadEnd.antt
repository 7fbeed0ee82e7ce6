-- No run is a dead end: a majority can go on alone, decide any instance, and serve any client's request.
use Rattle.std.specs.Prelude.{◌≡◌, ℕ, ◌<◌, ◌≤◌, Bool, true, List, [], ◌∷◌, ◌++◌, None}
use Rattle.std.specs.List.{Contains}
use Rattle.rr_types.specs.declared.command.Command.{Command}
use Rattle.rr_types.specs.declared.command.Reply.{Reply}
use Rattle.rr_types.specs.declared.fact.Fact.TheVariants.{Decide}
use Rattle.rr_types.specs.Facts.{standing_of}
use Rattle.rr_types.specs.Rounds.{majority_of}
use Rattle.rr_model.specs.Lawful.{count_below}
use Rattle.rr_model.specs.World.{Step, Submit, Hear, Stage, Settle, Send, Acknowledge, GoDown, Restart, MayHappen, decided_prefix, IsRun, end_of}
use Rattle.rr_model.specs.Sound.{IsChosen}
use Rattle.rr_model.specs.NodeInWorld.{node_of}

-- each of these steps is so
abbrev pub AreAllSteps : (Step → Type 0) → List Step → Type 0
AreAllSteps Is [] = Unit {0}
AreAllSteps Is (s ∷ ss) = Is s × AreAllSteps Is ss

-- if the step submits a command, it is this one
abbrev pub SubmitsOnly : Command → Step → Type 0
SubmitsOnly c (Submit p d) = d ≡ c
SubmitsOnly c (Hear p m) = Unit {0}
SubmitsOnly c (Stage p f) = Unit {0}
SubmitsOnly c (Settle p count) = Unit {0}
SubmitsOnly c (Send p m) = Unit {0}
SubmitsOnly c (Acknowledge p q reply) = Unit {0}
SubmitsOnly c (GoDown p) = Unit {0}
SubmitsOnly c (Restart p count) = Unit {0}

-- the step happens at one of the n nodes that is in the set, and no command but this one is submitted by it
abbrev pub IsStepOf : ℕ → (ℕ → Bool) → Command → Step → Type 0
IsStepOf n set c s = (node_of s < n) × (set (node_of s) ≡ true) × SubmitsOnly c s

-- the run has a continuation, with steps at nodes of the set alone, after which a command is chosen for the instance and each
-- node of the set is up and has decided it for good: this command, if they had no fact about the instance
pub record CanDecide (n : ℕ) (set : ℕ → Bool) (run : List Step) (c : Command) (i : ℕ) : Type 0 where
  pub more : List Step
  pub steps_are_of_the_set : AreAllSteps (IsStepOf n set c) more
  pub is_run : IsRun n (run ++ more)
  pub command : Command
  pub is_chosen : IsChosen n (end_of (run ++ more)).wire i command
  pub is_decided : (q : ℕ) → q < n → set q ≡ true → Contains ((end_of (run ++ more)).kept q) (Decide i command)
  pub are_up : (q : ℕ) → q < n → set q ≡ true → (end_of (run ++ more)).is_up q ≡ true
  pub is_new : ((q : ℕ) → q < n → set q ≡ true → standing_of i ((end_of run).kept q) ≡ None) → command ≡ c

-- no run of n nodes is a dead end: whatever happened before, a set that holds a majority of the nodes can go on without the
-- others and decide any instance. Clients submit but one command meanwhile, for where no node of the set has one
abbrev pub NoDeadEnd : Type 0
NoDeadEnd =
    (n : ℕ) (run : List Step) → IsRun n run
    → (set : ℕ → Bool) → majority_of n ≤ count_below set n → (c : Command) (i : ℕ)
    → CanDecide n set run c i

-- the run has a continuation, with steps at nodes of the set alone, after which each of them has the command in its decided
-- prefix, and may acknowledge the command's request
pub record CanServe (n : ℕ) (set : ℕ → Bool) (run : List Step) (c : Command) : Type 0 where
  pub more : List Step
  pub steps_are_of_the_set : AreAllSteps (IsStepOf n set c) more
  pub is_run : IsRun n (run ++ more)
  pub is_listed : (q : ℕ) → q < n → set q ≡ true → Contains (decided_prefix ((end_of (run ++ more)).kept q)) c
  pub may_reply : (q : ℕ) → q < n → set q ≡ true
      → (reply : Reply) × MayHappen n (end_of (run ++ more)) (Acknowledge q c.request reply)

-- and the nodes of such a set can serve any request that its client submits to them
abbrev pub EachCanBeServed : Type 0
EachCanBeServed =
    (n : ℕ) (run : List Step) → IsRun n run
    → (set : ℕ → Bool) → majority_of n ≤ count_below set n → (c : Command)
    → CanServe n set run c
