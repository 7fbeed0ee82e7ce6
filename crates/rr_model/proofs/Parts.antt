-- The parts of a sound run, each as a statement of its own.
use Rattle.std.specs.Prelude.{◌≡◌, ℕ, ◌≤◌, IsTrue, List, ◌∷◌, ◌++◌, length, take, Some}
use Rattle.std.specs.List.{Contains}
use Rattle.rr_types.specs.declared.command.Command.{Command}
use Rattle.rr_types.specs.declared.command.RequestNo.{RequestNo}
use Rattle.rr_types.specs.declared.command.Reply.{Reply}
use Rattle.rr_types.specs.declared.fact.Fact.TheVariants.{Decide}
use Rattle.rr_types.specs.declared.message.Body.TheVariants.{Decision}
use Rattle.rr_types.specs.Registry.{has_request, Bindings, registry_of, reply_of}
use Rattle.rr_model.specs.Lawful.{Says}
use Rattle.rr_model.specs.World.{Told, Acknowledged, Reported, Step, end_of}
use Rattle.rr_model.specs.Sound.{IsChosen, IsDecidedList}

-- for no instance are two commands chosen
abbrev pub IsOneChosen : ℕ → List Step → Type 0
IsOneChosen n run = (i : ℕ) (v w : Command) → IsChosen n (end_of run).wire i v → IsChosen n (end_of run).wire i w → v ≡ w

-- at every moment of the run, what a node has decided for good is chosen
abbrev pub AreDecidesChosen : ℕ → List Step → Type 0
AreDecidesChosen n run = (before after : List Step) → run ≡ before ++ after → (p i : ℕ) (v : Command) → Contains ((end_of before).kept p) (Decide i v) → IsChosen n (end_of before).wire i v

-- at every moment of the run, each decision on the wire is chosen
abbrev pub AreDecisionsChosen : ℕ → List Step → Type 0
AreDecisionsChosen n run = (before after : List Step) → run ≡ before ++ after → (p i : ℕ) (v : Command) → Says (end_of before).wire p (Decision i v) → IsChosen n (end_of before).wire i v

-- there is a decided list
abbrev pub HasDecidedList : ℕ → List Step → Type 0
HasDecidedList n run = (list : List Command) × IsDecidedList n (end_of run).wire list

-- there is only one decided list
abbrev pub IsOneDecidedList : ℕ → List Step → Type 0
IsOneDecidedList n run = (list other : List Command) → IsDecidedList n (end_of run).wire list → IsDecidedList n (end_of run).wire other → list ≡ other

-- every command of the decided list was submitted
abbrev pub IsListSubmitted : ℕ → List Step → Type 0
IsListSubmitted n run = (list : List Command) → IsDecidedList n (end_of run).wire list → (c : Command) → Contains list c → Contains (end_of run).submitted c

-- a restart report is of a beginning of the decided list, and its registry
abbrev pub AreReportsOfTheList : ℕ → List Step → Type 0
AreReportsOfTheList n run = (list : List Command) → IsDecidedList n (end_of run).wire list → (p count : ℕ) (entries : Bindings) → Contains (end_of run).trace (Reported p count entries) → (count ≤ length list) × (entries ≡ registry_of (take count list))

-- the commands of a restart report hold each request number that the node acknowledged before
abbrev pub DoReportsHoldAcknowledged : ℕ → List Step → Type 0
DoReportsHoldAcknowledged n run = (list : List Command) → IsDecidedList n (end_of run).wire list → (before after : List Told) (p count : ℕ) (entries : Bindings) → (end_of run).trace ≡ before ++ Reported p count entries ∷ after → (q : RequestNo) (reply : Reply) → Contains before (Acknowledged p q reply) → IsTrue (has_request (take count list) q)

-- each acknowledged reply is the decided list's
abbrev pub AreRepliesOfTheList : ℕ → List Step → Type 0
AreRepliesOfTheList n run = (list : List Command) → IsDecidedList n (end_of run).wire list → (p : ℕ) (q : RequestNo) (reply : Reply) → Contains (end_of run).trace (Acknowledged p q reply) → reply_of list q ≡ Some reply
