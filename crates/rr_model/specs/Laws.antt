-- Laws of runs: what is chosen or kept stays so, the decided list grows, a majority locks its command, replies keep real time,
-- and what a crash leaves of the nodes agrees.
use Rattle.std.specs.Prelude.{◌≡◌, ℕ, ◌<◌, ◌≤◌, IsTrue, List, [], ◌∷◌, ◌++◌, length, take, Some, slice_get}
use Rattle.std.specs.List.{Contains, fold}
use Rattle.rr_types.specs.declared.command.Command.{Command}
use Rattle.rr_types.specs.declared.command.RequestNo.{RequestNo}
use Rattle.rr_types.specs.declared.command.Reply.{Reply}
use Rattle.rr_types.specs.declared.fact.Fact.{Fact}
use Rattle.rr_types.specs.declared.fact.Fact.TheVariants.{Enter}
use Rattle.rr_types.specs.declared.message.Body.TheVariants.{Estimate, Proposal, Ack}
use Rattle.rr_types.specs.Rounds.{Estimated}
use Rattle.rr_types.specs.Facts.{instance_of, standing_of, decision_of}
use Rattle.rr_types.specs.Registry.{reply_of}
use Rattle.rr_types.specs.Promises.{standing_in, promise_of, all_fit}
use Rattle.rr_types.specs.Standings.{fits}
use Rattle.rr_model.specs.Lawful.{Heard, Says, HasMajority, IsLawful}
use Rattle.rr_model.specs.World.{World, Step, Acknowledged, decided_prefix, after_step, IsRun, end_of}
use Rattle.rr_model.specs.Sound.{IsChosen, IsDecidedList}

-- the world after these steps
abbrev pub after_steps : World → List Step → World
after_steps w steps = fold after_step w steps

-- the kept facts once the first so many staged facts are kept too
abbrev pub settled : World → ℕ → ℕ → List Fact
settled w p count = w.kept p ++ take count (w.staged p)

-- each beginning of the run is a run
abbrev pub AreBeginningsRuns : ℕ → List Step → Type 0
AreBeginningsRuns n run = (before after : List Step) → run ≡ before ++ after → IsRun n before

-- what is chosen at a moment stays chosen
abbrev pub StaysChosen : ℕ → List Step → Type 0
StaysChosen n run =
    (before after : List Step) → run ≡ before ++ after
    → (i : ℕ) (v : Command) → IsChosen n (end_of before).wire i v
    → IsChosen n (end_of run).wire i v

-- the decided list of a moment is a beginning of the last one
abbrev pub DoesListGrow : ℕ → List Step → Type 0
DoesListGrow n run =
    (before after : List Step) → run ≡ before ++ after
    → (list last : List Command) → IsDecidedList n (end_of before).wire list → IsDecidedList n (end_of run).wire last
    → (length list ≤ length last) × (take (length list) last ≡ list)

-- what a node keeps at a moment is a beginning of what it keeps at the end
abbrev pub AreKeptFactsNeverLost : List Step → Type 0
AreKeptFactsNeverLost run =
    (before after : List Step) → run ≡ before ++ after
    → (p : ℕ) → (rest : List Fact) × ((end_of run).kept p ≡ (end_of before).kept p ++ rest)

-- a node's rounds of an instance rise, over restarts too
abbrev pub DoRoundsRise : List Step → Type 0
DoRoundsRise run =
    (p i : ℕ) (a b : List Fact) (e f : Estimated) → (end_of run).kept p ≡ a ++ Enter i e ∷ b → Contains b (Enter i f)
    → e.round < f.round

-- an acknowledgement binds its sender's estimates of later rounds: their stamps are at least its round
abbrev pub DoAcksBind : List Step → Type 0
DoAcksBind run =
    (q i r : ℕ) (e : Estimated) → Says (end_of run).wire q (Ack i r) → Says (end_of run).wire q (Estimate i e)
    → r < e.round → r ≤ e.stamp

-- where a majority acknowledged a round, each later round proposes the same command
abbrev pub AreProposalsLocked : ℕ → List Step → Type 0
AreProposalsLocked n run =
    (i r : ℕ) (v : Command) (p : ℕ) → Says (end_of run).wire p (Proposal i r v)
    → HasMajority n (λ q. Says (end_of run).wire q (Ack i r))
    → (k : ℕ) (w : Command) (c : ℕ) → r ≤ k → Says (end_of run).wire c (Proposal i k w)
    → w ≡ v

-- a reply acknowledged by a moment comes from a beginning of the last decided list that was wholly submitted by then
abbrev pub KeepsRealTime : ℕ → List Step → Type 0
KeepsRealTime n run =
    (before after : List Step) → run ≡ before ++ after
    → (p : ℕ) (q : RequestNo) (reply : Reply)
    → Contains (end_of before).trace (Acknowledged p q reply)
    → (last : List Command) → IsDecidedList n (end_of run).wire last
    → (front : List Command) × (take (length front) last ≡ front) × (reply_of front q ≡ Some reply)
    × ((c : Command) → Contains front c → Contains (end_of before).submitted c)

-- where a command stands that was not submitted by a moment, the commands before it give each reply acknowledged by then
abbrev pub DoLaterCommandsStandBehind : ℕ → List Step → Type 0
DoLaterCommandsStandBehind n run =
    (before after : List Step) → run ≡ before ++ after
    → (p : ℕ) (q : RequestNo) (reply : Reply) → Contains (end_of before).trace (Acknowledged p q reply)
    → (last : List Command) → IsDecidedList n (end_of run).wire last
    → (c : Command) → (Contains (end_of before).submitted c → ⊥)
    → (k : ℕ) → slice_get last k ≡ Some c
    → reply_of (take k last) q ≡ Some reply

-- whatever a crash leaves of a node's facts fits, fact by fact
abbrev pub DoesWhatIsLeftFit : ℕ → List Step → Type 0
DoesWhatIsLeftFit n run = (p count : ℕ) → IsTrue (all_fit n p [] (settled (end_of run) p count))

-- a promise says of each instance where it stands by the facts
abbrev pub DoesPromiseStand : List Fact → Type 0
DoesPromiseStand facts = (i : ℕ) → standing_in (promise_of facts) i ≡ standing_of i facts

-- a lawful fact fits
abbrev pub DoLawfulFactsFit : ℕ → ℕ → List Fact → Type 0
DoLawfulFactsFit n p facts =
    (h : Heard) (f : Fact) → IsLawful n p facts h f → IsTrue (fits n p (standing_of (instance_of f) facts) f)

-- whatever a crash leaves of each, no two nodes decide an instance differently
abbrev pub DoCrashedNodesDecideAlike : List Step → Type 0
DoCrashedNodesDecideAlike run =
    (p q count other i : ℕ) (v w : Command)
    → decision_of (standing_of i (settled (end_of run) p count)) ≡ Some v
    → decision_of (standing_of i (settled (end_of run) q other)) ≡ Some w
    → v ≡ w

-- what a node has decided without a gap by what a crash leaves is a beginning of the decided list
abbrev pub DoCrashedNodesBeginTheList : ℕ → List Step → Type 0
DoCrashedNodesBeginTheList n run =
    (list : List Command) → IsDecidedList n (end_of run).wire list
    → (p count : ℕ) → (more : List Command) × (list ≡ decided_prefix (settled (end_of run) p count) ++ more)

-- and it gives each reply that the node has acknowledged
abbrev pub DoCrashedNodesKnowTheirReplies : List Step → Type 0
DoCrashedNodesKnowTheirReplies run =
    (p count : ℕ) (q : RequestNo) (reply : Reply) → Contains (end_of run).trace (Acknowledged p q reply)
    → reply_of (decided_prefix (settled (end_of run) p count)) q ≡ Some reply
