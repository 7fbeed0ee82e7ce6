-- Lost disks: the instances in which a node can have had facts, and decisions that outweigh all of these.
use Rattle.std.specs.Prelude.{◌≡◌, ℕ, ◌+◌, ◌≤◌, ◌<◌, List, [], ◌∷◌, ◌++◌, length, take, filter, None}
use Rattle.std.specs.Option.{option_map_or}
use Rattle.std.specs.List.{Contains, flat_map}
use Rattle.rr_types.specs.declared.command.Command.{Command}
use Rattle.rr_types.specs.declared.fact.Fact.{Fact}
use Rattle.rr_types.specs.declared.command.Op.TheVariants.{Claim}
use Rattle.rr_types.specs.declared.fact.Fact.TheVariants.{Enter, Decide}
use Rattle.rr_types.specs.declared.input.Input.TheVariants.{Submit, Hear}
use Rattle.rr_types.specs.declared.message.Body.TheVariants.{Decision}
use Rattle.rr_types.specs.declared.promise.Entry.{Entry}
use Rattle.rr_types.specs.Facts.{instance_of, standing_of}
use Rattle.rr_types.specs.Limits.{open_count}
use Rattle.rr_types.specs.Promises.{promise_of, standing_in}
use Rattle.rr_types.specs.Standings.{is_undecided}
use Rattle.rr_model.specs.ClusterExamples.{from_to}
use Rattle.rr_model.specs.Deeds.{Life, Lives, nothing_done, after_deeds, unmarked_of, sent_by, FindsItsFacts, deed_of}
use Rattle.rr_model.specs.Examples.{claim_a_x, first_estimate}
use Rattle.rr_model.specs.Lawful.{HasMajority}
use Rattle.rr_model.specs.Laws.{settled}
use Rattle.rr_model.specs.NodeLaws as node
use Rattle.rr_model.specs.NodeLaws.{StateEvent, after_event, facts_of_event}
use Rattle.rr_model.specs.NodeReached.{opened_over}
use Rattle.rr_model.specs.NodeState.{NodeState}
use Rattle.rr_model.specs.Sound.{IsChosenList}
use Rattle.rr_model.specs.World.{Step, end_of}
use Rattle.rr_model.specs.declared.deed.Deed.{Deed}
use Rattle.rr_model.specs.declared.deed.What.TheVariants.{Told, Up}

-- each of the facts is of an instance below the end
abbrev pub AreBelow : ℕ → List Fact → Type 0
AreBelow end facts = (f : Fact) → Contains facts f → instance_of f < end

-- each instance that the facts decide lies below the end
abbrev pub DecideBelow : ℕ → List Fact → Type 0
DecideBelow end facts = (i : ℕ) (v : Command) → Contains facts (Decide i v) → i < end

-- ---- decisions outweigh facts

-- the decisions of a list of commands, of which the first is decided for instance i
abbrev pub decisions_from : ℕ → List Command → List Fact
decisions_from i [] = []
decisions_from i (v ∷ list) = Decide i v ∷ decisions_from (i + 1) list

-- the decisions of a list of commands, from instance 0 on
abbrev pub decisions_of : List Command → List Fact
decisions_of list = decisions_from 0 list

-- the decisions of the list that are news to a node with these facts: those of instances that it has not decided
abbrev pub news_of : List Fact → List Command → List Fact
news_of facts list = filter (λ f. is_undecided (standing_of (instance_of f) facts)) (decisions_of list)

-- a node with these facts stands as one with the others. Their number may differ, which no other node sees
pub record StandAlike (facts others : List Fact) : Type 0 where
  pub promise : promise_of facts ≡ promise_of others
  pub standings : (i : ℕ) → standing_of i facts ≡ standing_of i others

-- facts below the end of a list, and behind them all decisions of the list, stand as these decisions alone
abbrev pub DoDecisionsOutweigh : List Fact → List Command → Type 0
DoDecisionsOutweigh facts list = AreBelow (length list) facts → StandAlike (facts ++ decisions_of list) (decisions_of list)

-- the events by which node p hears of node q what a list decides from instance i on, one decision after another
abbrev pub hears_from : ℕ → ℕ → ℕ → List Command → List StateEvent
hears_from q p i [] = []
hears_from q p i (v ∷ list) = node.Told (Hear (from_to q p (Decision i v))) ∷ hears_from q p (i + 1) list

-- the facts that events stage at a node
abbrev pub facts_of_events : NodeState → List StateEvent → List Fact
facts_of_events s [] = []
facts_of_events s (e ∷ es) = facts_of_event s e ++ facts_of_events (after_event s e) es

-- node p of n, just opened over these facts, stages what is news and nothing else while it hears what the list decides
abbrev pub StagesJustTheNews : ℕ → ℕ → List Fact → List Command → Type 0
StagesJustTheNews n p facts list = (q : ℕ) → facts_of_events (opened_over n p facts) (hears_from q p 0 list) ≡ news_of facts list

-- with these facts, and behind them what is news of the list, a node stands as if it had the decisions of the list alone
abbrev pub StandsByTheList : List Command → List Fact → Type 0
StandsByTheList list facts = StandAlike (facts ++ news_of facts list) (decisions_of list)

-- a node of a run, which has facts below the end of a list of chosen commands, stands by the list once it has heard it,
-- whichever of its facts a crash left
abbrev pub DoesNewsOutweigh : ℕ → List Step → Type 0
DoesNewsOutweigh n run =
    (list : List Command) → IsChosenList n (end_of run).wire list
    → (p count : ℕ) → AreBelow (length list) (settled (end_of run) p count)
    → StandsByTheList list (settled (end_of run) p count)

-- ---- which instances a node can have had

-- the facts that a node has not marked, whether it is up or down
abbrev pub unmarked_facts : Life → List Fact
unmarked_facts l = option_map_or unmarked_of l.state l.unmarked

-- all facts of a node
abbrev pub all_facts : Life → List Fact
all_facts l = l.marked ++ unmarked_facts l

-- the facts that a crash leaves of them: those marked, and the first so many of the others
abbrev pub left_facts : Life → ℕ → List Fact
left_facts l count = l.marked ++ take count (unmarked_facts l)

-- all nodes where the deeds leave them
abbrev pub lives_after : ℕ → List Deed → Lives
lives_after n deeds = after_deeds n deeds nothing_done

-- a promise says nothing of the end or of any instance above
abbrev pub SaysNothingFrom : ℕ → List Entry → Type 0
SaysNothingFrom end promise = (i : ℕ) → end ≤ i → standing_in promise i ≡ None

-- such a promise can be found on the disk of the node. It is that of the facts that the node has marked, or of these and
-- some behind them, as a start finds it
abbrev pub PromisesNothingFrom : ℕ → Life → Type 0
PromisesNothingFrom end l = (promise : List Entry) × (next : ℕ) × FindsItsFacts l promise next × SaysNothingFrom end promise

-- a majority promises nothing from the end on
abbrev pub DoesAMajorityEnd : ℕ → Lives → ℕ → Type 0
DoesAMajorityEnd n v end = HasMajority n (λ q. PromisesNothingFrom end (v.life q))

-- where a majority promises nothing from the end on, no node has decided the end or an instance above. And all facts of each
-- node are of instances below the eighth one above the end. Facts that are not marked count too, and nodes that are down
abbrev pub BoundsLostFacts : ℕ → Lives → Type 0
BoundsLostFacts n v =
    (end : ℕ) → DoesAMajorityEnd n v end
    → (p : ℕ) → DecideBelow end (all_facts (v.life p)) × AreBelow (end + open_count) (all_facts (v.life p))

-- THE LAW OF A LOST DISK: at some moment a majority promised nothing from the end on. By the end of the history a list of
-- commands is chosen, for all instances up to the eight from there. Then each node stands by the list, with whatever a crash
-- at that moment left of its facts. So a node whose disk was lost by then may begin anew, with the list's decisions alone
abbrev pub MayBeginAnew : ℕ → List Deed → Type 0
MayBeginAnew n deeds =
    (before after : List Deed) → deeds ≡ before ++ after
    → (end : ℕ) → DoesAMajorityEnd n (lives_after n before) end
    → (list : List Command) → IsChosenList n (flat_map sent_by deeds) list → end + open_count ≤ length list
    → (p count : ℕ) → StandsByTheList list (left_facts ((lives_after n before).life p) count)

-- ---- a small history

-- request k of client 1, which claims a name
abbrev pub claim_number : ℕ → Command
claim_number k = record { request = record { client = 1; seq = k }; op = Claim (97 ∷ []) (120 ∷ []) }

-- a client of node 2 submits this request
abbrev pub asks : ℕ → Deed
asks k = deed_of 2 (Told (Submit (claim_number k)))

-- node 2 of three comes up alone, over nothing, and is asked eight times
abbrev pub asked_alone : List Deed
asked_alone = deed_of 2 (Up [] 0) ∷ asks 1 ∷ asks 2 ∷ asks 3 ∷ asks 4 ∷ asks 5 ∷ asks 6 ∷ asks 7 ∷ asks 8 ∷ []

-- nodes 0 and 1, which did nothing, promise nothing; and yet it has facts of eight instances, the last one instance 7
abbrev pub HasFactsOfEight : Type 0
HasFactsOfEight = DoesAMajorityEnd 3 (lives_after 3 asked_alone) 0 × (AreBelow 7 (all_facts ((lives_after 3 asked_alone).life 2)) → ⊥)

-- where one instance of which a node has a fact is left out, decisions don't outweigh its facts
abbrev pub DoesOneLeftOutCount : Type 0
DoesOneLeftOutCount = StandsByTheList (claim_a_x ∷ []) (Enter 1 first_estimate ∷ []) → ⊥
