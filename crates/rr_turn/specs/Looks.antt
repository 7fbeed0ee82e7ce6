-- A look of a node's thread, part by part, and its tick. The calls that a part makes on the node say which states that had.
use Rattle.std.specs.Prelude.{◌≡◌, ◌≤◌, ◌++◌, ◌∷◌, [], ℕ, Bool, true, false, ◌||◌, if◌then◌else◌, List, length, map, Option, None, Some, Result, Ok, IfErr, IfSome, nat_lt, is_some}
use Rattle.std.specs.Option.{option_map_or}
use Rattle.rr_types.specs.declared.refusal.Refusal.{Refusal}
use Rattle.rr_types.specs.declared.refusal.Refusal.TheVariants.{Busy}
use Rattle.rr_types.specs.Groups.{Grouped}
use Rattle.rr_journal.specs.Flushes as flushed
use Rattle.rr_model.specs.NodeState.{NodeState, decided_prefix}
use Rattle.rr_model.specs.NodeStep.{running_group, group_taken, marked_running}
use Rattle.rr_turn.specs.Recorded.{Sent}
use Rattle.rr_turn.specs.Chases.{Chase, Kept, sent_of}
use Rattle.rr_turn.specs.Ticks.{Ticks, Standstill, is_tick_due, ticks_after, until_tick}
use Rattle.rr_turn.specs.Asked.{Call, Ran, marks, groups, puts_late, sees, comes, notices, passes, wakes_publisher, reads_clock, rests, goes_on}
use Rattle.rr_turn.specs.Wants.{AsksAll}
use Rattle.rr_turn.specs.Turns.{leaving, left, noted, woken_with, rings_from, putting, taking, all_met, all_met_chase, met, met_chase, meeting, given, giving, ticking, ticked_chase, ticked_standstill}

-- a synced group is marked: it is the one that ran. Whether more is decided by that
pub record MarksGroup {L : Type 0} (gives : L → Call → L → Type 0) (s : NodeState) (synced : flushed.Kept) (more : Bool) (from to : L) : Type 0 where
  pub call : gives from (marks s synced) to
  pub ran : running_group s ≡ Some synced.group
  pub answer : more ≡ nat_lt (length (decided_prefix s)) (length (decided_prefix (marked_running s)))

-- messages that may leave, at most so many, are put into their receivers' inboxes, and the chase knows of them. Whether there is one, and
-- who is woken by them
pub record Puts {L : Type 0} (gives : L → Call → L → Type 0) (s t : NodeState) (most : ℕ) (has : Bool) (woken : ℕ)
    (c : Chase) (from : L) (k : Chase) (to : L) : Type 0 where
  pub sents : List Sent
  pub oldest : map (λ m. m.message) sents ≡ leaving most s
  pub calls : Ran gives (putting most sents s) from to
  pub after : t ≡ left most s
  pub chase : k ≡ noted sents c
  pub answer : has ≡ nat_lt 0 (length sents)
  pub wakes : woken ≡ woken_with 0 sents

-- what waits in the inbox, at most so many messages, is heard, each once. Whether there is one
pub record Hears {L : Type 0} (gives : L → Call → L → Type 0) (s t : NodeState) (most : ℕ) (has : Bool)
    (c : Chase) (from : L) (k : Chase) (to : L) : Type 0 where
  pub sents : List Sent
  pub few : length sents ≤ most
  pub calls : Ran gives (taking most sents s c) from to
  pub after : t ≡ all_met sents s c
  pub chase : k ≡ all_met_chase sents s c
  pub answer : has ≡ nat_lt 0 (length sents)

-- a node gives its staged facts as a group, which runs then; none where there are none, or where one runs
pub record Groups {L : Type 0} (gives : L → Call → L → Type 0) (s : NodeState) (group : Option Grouped) (from to : L) : Type 0 where
  pub answer : Result (Option Grouped) Refusal
  pub call : gives from (groups s answer) to
  pub refused : IfErr answer (λ e. e ≡ Busy)
  pub is : group ≡ given answer
  pub runs : IfSome group (λ g. running_group (group_taken s) ≡ Some g)

module _ {L : Type 0} (gives : L → Call → L → Type 0) where
  -- what comes back from the flusher, if something does, is marked, and the publisher is rung where more is decided
  abbrev pub Marks : Option flushed.Kept → L → L → Type 0
  Marks None from to = gives from (comes None) to
  Marks (Some synced) from to =
      (s : NodeState) × (more : Bool) × (back mid : L) × gives from (comes (Some (Ok synced))) back × MarksGroup gives s synced more back mid
      × Ran gives (if more then wakes_publisher ∷ [] else []) mid to

  -- what may leave is sent: those whom it wakes are rung once all is there
  abbrev pub Sends : ℕ → Bool → Chase → L → Chase → L → Type 0
  Sends most has c from k to =
      (s t : NodeState) × (woken : ℕ) × (mid : L) × Puts gives s t most has woken c from k mid × Ran gives (rings_from 7 0 woken) mid to

  -- once one has asked whether nothing waits, what waits is heard
  abbrev pub HearsUnless : Bool → ℕ → Bool → Chase → L → Chase → L → Type 0
  HearsUnless true most has c from k to = (has ≡ false) × (k ≡ c) × (to ≡ from)
  HearsUnless false most has c from k to = (s t : NodeState) × Hears gives s t most has c from k to

  abbrev pub Looks : ℕ → Bool → Chase → L → Chase → L → Type 0
  Looks most has c from k to = (is_idle : Bool) × (mid : L) × gives from (sees is_idle) mid × HearsUnless is_idle most has c mid k to

  -- a group that the node gives goes to the flusher
  abbrev pub Flushes : Bool → L → L → Type 0
  Flushes has from to =
      (s : NodeState) × (group : Option Grouped) × (mid : L) × Groups gives s group from mid × Ran gives (giving group) mid to
      × (has ≡ is_some group)

  -- what waits is heard; the node is asked for what its clients want, so many commands; and what it owes then is put into inboxes, which
  -- wakes these
  abbrev pub SubmitsInOrder : ℕ → ℕ → ℕ → Chase → L → Chase → L → Type 0
  SubmitsInOrder most count woken c from k to = (has_heard has_put : Bool) × (s t : NodeState) × (d : Chase) × (heard asked : L)
      × Looks most has_heard c from d heard × AsksAll gives count heard asked × Puts gives s t most has_put woken d asked k to

  -- where a client wants something this is done, and then those are rung who are woken
  abbrev pub SubmitsIf : Bool → ℕ → Chase → L → Chase → L → Type 0
  SubmitsIf true most c from k to =
      (count woken : ℕ) × (mid rung : L) × SubmitsInOrder most count woken c from k mid × Ran gives (rings_from 7 0 woken) mid rung
      × gives rung (passes count) to
  SubmitsIf false most c from k to = (k ≡ c) × (to ≡ from)

  abbrev pub Submits : ℕ → Bool → Chase → L → Chase → L → Type 0
  Submits most has c from k to = (mid : L) × gives from (notices has) mid × SubmitsIf has most c mid k to

-- a message that may be there comes: the node meets it
pub record MeetsAny {L : Type 0} (gives : L → Call → L → Type 0) (sent : Option Sent) (s : NodeState) (c : Chase) (from : L)
    (t : NodeState) (k : Chase) (to : L) : Type 0 where
  pub calls : Ran gives (option_map_or (λ m. meeting m s c) sent []) from to
  pub after : t ≡ option_map_or (λ m. met m s c) sent s
  pub chase : k ≡ option_map_or (λ m. met_chase m s c) sent c

-- what is kept comes, each once: the last request, the estimate or proposal of the highest instance, the decision of the highest instance
pub record HearsKept {L : Type 0} (gives : L → Call → L → Type 0) (kept : Kept) (s : NodeState) (c : Chase) (from : L) (k : Chase) (to : L) : Type 0 where
  pub requested : NodeState
  pub opened : NodeState
  pub decided : NodeState
  pub requested_chase : Chase
  pub opened_chase : Chase
  pub requested_at : L
  pub opened_at : L
  pub request : MeetsAny gives kept.request s c from requested requested_chase requested_at
  pub opening : MeetsAny gives (sent_of kept.opening) requested requested_chase requested_at opened opened_chase opened_at
  pub decision : MeetsAny gives (sent_of kept.decision) opened opened_chase opened_at decided k to

-- a look: these parts, in this order. Whether there was something: whether there was in one of them
pub record Looked {L : Type 0} (gives : L → Call → L → Type 0) (batch room : ℕ) (has : Bool) (c : Chase) (from : L) (k : Chase) (to : L) : Type 0 where
  pub back : Option flushed.Kept
  pub submitted : Bool
  pub sent : Bool
  pub heard : Bool
  pub staged : Bool
  pub marked_at : L
  pub submitted_at : L
  pub sent_at : L
  pub heard_at : L
  pub submitted_chase : Chase
  pub sent_chase : Chase
  pub marks : Marks gives back from marked_at
  pub submits : Submits gives room submitted c marked_at submitted_chase submitted_at
  pub sends : Sends gives batch sent submitted_chase submitted_at sent_chase sent_at
  pub hears : Looks gives batch heard sent_chase sent_at k heard_at
  pub flushes : Flushes gives staged heard_at to
  pub answer : has ≡ ((((is_some back || submitted) || sent) || heard) || staged)

-- a tick that is due: what waits is heard, at most so many messages, and then the node ticks by the rule
pub record TicksFrom {L : Type 0} (gives : L → Call → L → Type 0) (s : NodeState) (most : ℕ)
    (c : Chase) (b : Standstill) (from : L) (k : Chase) (d : Standstill) (to : L) : Type 0 where
  pub sents : List Sent
  pub few : length sents ≤ most
  pub calls : Ran gives (taking most sents s c ++ ticking (all_met sents s c) (all_met_chase sents s c) b) from to
  pub chase : k ≡ ticked_chase (all_met sents s c) (all_met_chase sents s c)
  pub standstill : d ≡ ticked_standstill (all_met sents s c) (all_met_chase sents s c) b

module _ {L : Type 0} (gives : L → Call → L → Type 0) where
  -- the same, behind what is late
  abbrev pub Ticked : ℕ → Chase → Standstill → L → Chase → Standstill → L → Type 0
  Ticked most c b from k d to = (s : NodeState) × (mid : L) × gives from puts_late mid × TicksFrom gives s most c b mid k d to

  -- behind a look that found nothing the thread rests, until a tick is due at most
  abbrev pub RestsIf : Bool → Ticks → L → L → Type 0
  RestsIf true t from to = gives from goes_on to
  RestsIf false t from to = (now : ℕ) × (mid : L) × gives from (reads_clock now) mid × gives mid (rests (until_tick now t)) to

  -- where a tick is due the node ticks by the rule; where none is due nothing is called
  abbrev pub TicksIf : Bool → ℕ → Chase → Standstill → L → Chase → Standstill → L → Type 0
  TicksIf true most c b from k d to = Ticked most c b from k d to
  TicksIf false most c b from k d to = (to ≡ from) × (k ≡ c) × (d ≡ b)

-- a turn: a look, and a rest if that found nothing; then the clock is read, and the node ticks if it is due, whatever the look found
pub record Turned {L : Type 0} (gives : L → Call → L → Type 0) (batch room : ℕ) (c : Chase) (t : Ticks) (b : Standstill) (from : L)
    (k : Chase) (u : Ticks) (d : Standstill) (to : L) : Type 0 where
  pub has : Bool
  pub now : ℕ
  pub looked_chase : Chase
  pub looked_at : L
  pub rested_at : L
  pub timed_at : L
  pub looks : Looked gives batch room has c from looked_chase looked_at
  pub pauses : RestsIf gives has t looked_at rested_at
  pub reads : gives rested_at (reads_clock now) timed_at
  pub due : TicksIf gives (is_tick_due now t) room looked_chase b timed_at k d to
  pub ticks : u ≡ ticks_after now t
