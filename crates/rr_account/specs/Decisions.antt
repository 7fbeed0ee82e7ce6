-- Which event decided an instance: the hearing of an acknowledgement, with which a majority of all nodes was heard for its round.
use Rattle.std.specs.Prelude.{◌≡◌, ℕ, ◌≤◌, ◌<◌, ◌+◌, true, if◌then◌else◌, List, [], ◌∷◌, length, map, Option, None, Some, slice_get}
use Rattle.std.specs.List.{flat_map}
use Rattle.rr_types.specs.Nodes.{has_member}
use Rattle.rr_types.specs.declared.message.Body.{Body}
use Rattle.rr_types.specs.declared.message.Body.TheVariants as says
use Rattle.rr_types.specs.declared.message.Message.{Message}
use Rattle.rr_types.specs.declared.input.Input.TheVariants.{Hear}
use Rattle.rr_types.specs.declared.event.NodeEvent.TheVariants as node
use Rattle.rr_model.specs.Lawful.{HasMajority}
use Rattle.rr_text.specs.declared.event.Event.{Event}
use Rattle.rr_text.specs.declared.event.Happening.{Happening}
use Rattle.rr_text.specs.declared.event.Happening.TheVariants.{At}
use Rattle.rr_text.specs.declared.report.ReportLine.{ReportLine}
use Rattle.rr_text.specs.declared.report.ReportLine.TheVariants as line
use Rattle.rr_account.specs.declared.reasons.Reason.{Reason}
use Rattle.rr_account.specs.declared.seen.Seen.{Seen}
use Rattle.rr_account.specs.declared.seen.Seen.TheVariants.{Acked, Opened, Other}
use Rattle.rr_account.specs.Accounts.{Accounted}
use Rattle.rr_account.specs.Counts.{happened, is_done, is_told}

-- ---- what an event is to decisions

-- the message that a line of a report tells as sent, if it tells one
abbrev pub sent_on : ReportLine → List Message
sent_on (line.Send k m) = m ∷ []
sent_on _ = []

-- what it is that node p hears a message that says this from node q
abbrev pub acked_in : ℕ → ℕ → Body → Seen
acked_in p q (says.Ack i r) = Acked p q i r
acked_in p q _ = Other

-- what it is that node p hears this message
abbrev pub acked_by : ℕ → Option Message → Seen
acked_by p None = Other
acked_by p (Some m) = acked_in p m.from m.body

-- what happens at node p, of which this is said, where these messages were sent: a hearing that was done may be of an
-- acknowledgement, and of a device call the report has a line only where it ends an opening
abbrev pub seen_at : ℕ → Happening → Reason → List Message → Seen
seen_at p (At (node.Told (Hear k))) reason wire = if is_done reason then acked_by p (slice_get wire k) else Other
seen_at p (At node.Device) reason wire = if is_told reason then Opened p else Other
seen_at p _ reason wire = Other

-- the same of an event
abbrev pub seen_of : Event → Reason → List Message → Seen
seen_of e reason wire = seen_at e.node e.what reason wire

-- what the events of a run are to decisions, in turn
abbrev pub seen_in : Accounted → List Seen
seen_in a = map (λ it. seen_of it.0 it.1 (flat_map sent_on a.report.lines)) (happened a)

-- ---- decisions

-- by the event of this place, node p has heard node q's acknowledgement of round r of instance i since it opened last
pub record HasHeard (seen : List Seen) (place p i r q : ℕ) : Type 0 where
  pub at : ℕ
  pub by_then : at ≤ place
  pub heard : slice_get seen at ≡ Some (Acked p q i r)
  pub since : (between : ℕ) → at < between → between ≤ place → slice_get seen between ≡ Some (Opened p) → ⊥

-- from this place on up to the other, the node didn't open, and each node of the set was heard
pub record HeardFrom (seen : List Seen) (left place p i r set : ℕ) : Type 0 where
  pub within : left ≤ place + 1
  pub closed : (j : ℕ) → left ≤ j → j ≤ place → slice_get seen j ≡ Some (Opened p) → ⊥
  pub each : (x : ℕ) → has_member set x ≡ true → HasHeard seen place p i r x

-- at the event of this place a node hears an acknowledgement of instance i, and with it those of a majority of all n nodes for
-- the round
pub record Completes (n : ℕ) (seen : List Seen) (place i : ℕ) : Type 0 where
  pub p : ℕ
  pub q : ℕ
  pub r : ℕ
  pub hears : slice_get seen place ≡ Some (Acked p q i r)
  pub majority : HasMajority n (λ x. HasHeard seen place p i r x)

-- these are the instances that events decide, if they decide one: with each event that decides one a majority was heard for it, and
-- none is decided twice. That it is the first such event, and that no decision is left out, isn't said here: it is tested
pub record AreDecisionsOf (n : ℕ) (seen : List Seen) (decided : List (Option ℕ)) : Type 0 where
  pub one_each : length decided ≡ length seen
  pub completes : (place i : ℕ) → slice_get decided place ≡ Some (Some i) → Completes n seen place i
  pub once : (one other i : ℕ) → slice_get decided one ≡ Some (Some i) → slice_get decided other ≡ Some (Some i) → one ≡ other

-- the same of the events of a run
abbrev pub AreDecisions : Accounted → List (Option ℕ) → Type 0
AreDecisions a decided = AreDecisionsOf a.schedule.nodes (seen_in a) decided
