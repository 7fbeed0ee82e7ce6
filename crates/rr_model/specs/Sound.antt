-- When a command is chosen, the decided list, and a sound run: nodes agree, on submitted commands, and what was told stays true.
use Rattle.std.specs.Prelude.{◌≡◌, ℕ, ◌≤◌, IsTrue, List, ◌∷◌, ◌++◌, length, take, Some, slice_get}
use Rattle.std.specs.List.{Contains}
use Rattle.rr_types.specs.declared.command.Command.{Command}
use Rattle.rr_types.specs.declared.command.RequestNo.{RequestNo}
use Rattle.rr_types.specs.declared.command.Reply.{Reply}
use Rattle.rr_types.specs.declared.fact.Fact.TheVariants.{Decide}
use Rattle.rr_types.specs.declared.message.Body.TheVariants.{Proposal, Ack, Decision}
use Rattle.rr_types.specs.declared.message.Message.{Message}
use Rattle.rr_types.specs.Registry.{has_request, Bindings, registry_of, reply_of}
use Rattle.rr_model.specs.Lawful.{Says, HasMajority}
use Rattle.rr_model.specs.World.{Told, Acknowledged, Reported, Step, end_of}

-- v is chosen for instance i: it was proposed in some round, and a majority acknowledged that round
pub record IsChosen (n : ℕ) (wire : List Message) (i : ℕ) (v : Command) : Type 0 where
  pub round : ℕ
  pub proposer : ℕ
  pub proposed : Says wire proposer (Proposal i round v)
  pub acknowledged : HasMajority n (λ q. Says wire q (Ack i round))

-- place i of the list holds a command chosen for instance i
abbrev pub IsChosenList : ℕ → List Message → List Command → Type 0
IsChosenList n wire list = (i : ℕ) (v : Command) → slice_get list i ≡ Some v → IsChosen n wire i v

-- the decided list: the longest list whose place i holds a command chosen for instance i
pub record IsDecidedList (n : ℕ) (wire : List Message) (list : List Command) : Type 0 where
  pub chosen : IsChosenList n wire list
  pub longest : (other : List Command) → IsChosenList n wire other → length other ≤ length list

-- a sound run of n nodes: they agree, on submitted commands, and what was told stays true
pub record IsSound (n : ℕ) (run : List Step) : Type 0 where
  -- for no instance are two commands chosen
  pub one_command_is_chosen : (i : ℕ) (v w : Command) → IsChosen n (end_of run).wire i v → IsChosen n (end_of run).wire i w → v ≡ w
  -- at every moment of the run, what a node has decided for good is chosen
  pub what_nodes_decide_is_chosen : (before after : List Step) → run ≡ before ++ after →
      (p i : ℕ) (v : Command) → Contains ((end_of before).kept p) (Decide i v) → IsChosen n (end_of before).wire i v
  -- at every moment of the run, each decision on the wire is chosen
  pub what_decisions_say_is_chosen : (before after : List Step) → run ≡ before ++ after →
      (p i : ℕ) (v : Command) → Says (end_of before).wire p (Decision i v) → IsChosen n (end_of before).wire i v
  -- there is a decided list
  pub a_decided_list_exists : (list : List Command) × IsDecidedList n (end_of run).wire list
  -- there is only one decided list
  pub the_decided_list_is_one : (list other : List Command) →
      IsDecidedList n (end_of run).wire list → IsDecidedList n (end_of run).wire other → list ≡ other
  -- every command of the decided list was submitted
  pub its_commands_were_submitted : (list : List Command) → IsDecidedList n (end_of run).wire list →
      (c : Command) → Contains list c → Contains (end_of run).submitted c
  -- a restart report is of a beginning of the decided list, and its registry
  pub restarts_report_beginnings_of_it : (list : List Command) → IsDecidedList n (end_of run).wire list →
      (p count : ℕ) (entries : Bindings) → Contains (end_of run).trace (Reported p count entries) →
      (count ≤ length list) × (entries ≡ registry_of (take count list))
  -- the commands of a restart report hold each request number that the node acknowledged before
  pub restarts_hold_what_was_acknowledged : (list : List Command) → IsDecidedList n (end_of run).wire list →
      (before after : List Told) (p count : ℕ) (entries : Bindings) → (end_of run).trace ≡ before ++ Reported p count entries ∷ after →
      (q : RequestNo) (reply : Reply) → Contains before (Acknowledged p q reply) → IsTrue (has_request (take count list) q)
  -- each acknowledged reply is the decided list's
  pub acknowledged_replies_are_its_own : (list : List Command) → IsDecidedList n (end_of run).wire list →
      (p : ℕ) (q : RequestNo) (reply : Reply) → Contains (end_of run).trace (Acknowledged p q reply) → reply_of list q ≡ Some reply
