-- Histories in which disks are made anew: a node that is down, and has lost its disk, begins again with decisions alone.
use Rattle.std.specs.Prelude.{◌≡◌, ℕ, ◌+◌, ◌≤◌, List, [], ◌∷◌, ◌++◌, length, None}
use Rattle.rr_types.specs.declared.command.Command.{Command}
use Rattle.rr_types.specs.declared.promise.Entry.{Entry}
use Rattle.rr_types.specs.Limits.{open_count}
use Rattle.rr_types.specs.Promises.{decided_from}
use Rattle.rr_model.specs.Deeds.{Life, Lives, nothing_done, after_deed, IsNextOf, FindsItsFacts, OpensWellAt, deed_of, AgreesWithOneList}
use Rattle.rr_model.specs.LostDisks.{AreBelow, decisions_of, all_facts, DoesAMajorityEnd, asks}
use Rattle.rr_model.specs.Sound.{IsChosenList}
use Rattle.rr_model.specs.World.{with_at}
use Rattle.rr_model.specs.declared.deed.Deed.{Deed}
use Rattle.rr_model.specs.declared.deed.What.TheVariants.{Down, Up}

-- a turn of a history
pub data Turn : Type 0 where
  -- a node does something
  Does : (d : Deed) → Turn
  -- the disk of node p is made anew, with the decisions of this list and nothing else
  Renewed : (p : ℕ) → (list : List Command) → Turn

-- a node that is down, over a disk with the decisions of the list
abbrev pub renewed : List Command → Life
renewed list = record { state = None; marked = decisions_of list; unmarked = [] }

-- after a turn
abbrev pub after_turn : ℕ → Turn → Lives → Lives
after_turn n (Does d) v = after_deed n d v
after_turn n (Renewed p list) v = record v { life = with_at v.life p (renewed list) }

-- after turns, one after another
abbrev pub after_turns : ℕ → List Turn → Lives → Lives
after_turns n [] v = v
after_turns n (t ∷ ts) v = after_turns n ts (after_turn n t v)

-- what a turn may be: what its node may do next, where a start finds its facts. Or a disk is made anew where its node is
-- down and the commands of the list are chosen. Then all facts that the node had lie below the end of the list
abbrev pub MayTurn : ℕ → Lives → Turn → Type 0
MayTurn n v (Does d) = IsNextOf n v.wire d.node (v.life d.node) d.what × OpensWellAt (v.life d.node) d.what
MayTurn n v (Renewed p list) = ((v.life p).state ≡ None) × IsChosenList n v.wire list × AreBelow (length list) (all_facts (v.life p))

-- each turn may be where it stands
abbrev pub AreTurnsFrom : ℕ → Lives → List Turn → Type 0
AreTurnsFrom n v [] = Unit {0}
AreTurnsFrom n v (t ∷ ts) = MayTurn n v t × AreTurnsFrom n (after_turn n t v) ts

-- the turns are a history of n nodes
abbrev pub AreTurns : ℕ → List Turn → Type 0
AreTurns n ts = AreTurnsFrom n nothing_done ts

-- the deeds among the turns
abbrev pub deeds_of : List Turn → List Deed
deeds_of [] = []
deeds_of (Does d ∷ ts) = d ∷ deeds_of ts
deeds_of (Renewed p list ∷ ts) = deeds_of ts

-- all nodes where the turns leave them
abbrev pub lives_then : ℕ → List Turn → Lives
lives_then n ts = after_turns n ts nothing_done

-- what nodes say in these turns agrees with one list
abbrev pub DoTurnsAgree : ℕ → List Turn → Type 0
DoTurnsAgree n ts = AgreesWithOneList n (deeds_of ts)

-- what the disk of a node that is down has decided without a gap is a list of chosen commands
abbrev pub AreDisksChosen : ℕ → Lives → Type 0
AreDisksChosen n v =
    (p : ℕ) (promise : List Entry) (next : ℕ) → (v.life p).state ≡ None → FindsItsFacts (v.life p) promise next
    → IsChosenList n v.wire (decided_from 0 promise)

-- no turn is one of node p, or of its disk
abbrev pub IsIdle : ℕ → List Turn → Type 0
IsIdle p [] = Unit {0}
IsIdle p (Does d ∷ ts) = (p ≡ d.node → ⊥) × IsIdle p ts
IsIdle p (Renewed q list ∷ ts) = (p ≡ q → ⊥) × IsIdle p ts

-- WHEN A DISK MAY BE MADE ANEW: a majority promised nothing from the end on, while its node was down, and the node did nothing
-- since. And by now the commands of the list are chosen, for all instances up to the eight from that end
abbrev pub MayBeRenewed : ℕ → List Turn → List Turn → Type 0
MayBeRenewed n before after =
    (p end : ℕ) → ((lives_then n before).life p).state ≡ None → DoesAMajorityEnd n (lives_then n before) end → IsIdle p after
    → (list : List Command) → IsChosenList n (lives_then n (before ++ after)).wire list → end + open_count ≤ length list
    → MayTurn n (lives_then n (before ++ after)) (Renewed p list)

-- ---- small histories

-- node 2 of three comes up over nothing and goes down; its disk is made anew with nothing, and it comes up again
abbrev pub renewed_in_time : List Turn
renewed_in_time = Does (deed_of 2 (Up [] 0)) ∷ Does (deed_of 2 Down) ∷ Renewed 2 [] ∷ Does (deed_of 2 (Up [] 0)) ∷ []

-- it was asked once, and so has a fact of instance 0, for which nothing is chosen
abbrev pub renewed_too_early : List Turn
renewed_too_early = Does (deed_of 2 (Up [] 0)) ∷ Does (asks 1) ∷ Does (deed_of 2 Down) ∷ Renewed 2 [] ∷ []

-- its disk may not be made anew then
abbrev pub IsRenewedTooEarly : Type 0
IsRenewedTooEarly = AreTurns 3 renewed_too_early → ⊥
