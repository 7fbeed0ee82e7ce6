-- To which inboxes the ways of nodes lead; what a node puts into one, and what of that is late; what it takes out of its own, and keeps.
use Rattle.std.specs.Prelude.{◌≡◌, ◌⊎◌, ◌<◌, ℕ, List, All, length, map, slice_get, slice_index_or, slice_set, Option, None, Some}
use Rattle.rr_window.specs.InOrder.{Inbox, End, Puts, Takes, HasHeld}
use Rattle.rr_turn.specs.Recorded.{Sent}
use Rattle.rr_turn.specs.Chases.{kept_with, sent_of}
use Rattle.rr_threads.specs.declared.wires.Way.{Way}
use Rattle.rr_threads.specs.declared.wires.Mail.{Mail}

-- inboxes, each by the name of its queue
abbrev pub named : List (End Inbox Sent) → List Inbox
named inboxes = map (λ o. o.queue) inboxes

-- the inboxes to which ways lead
abbrev pub led_to : List Way → List Inbox
led_to ways = map (λ w. w.port.queue) ways

-- each of these nodes has a way to the inbox of each, in the order of the nodes
abbrev pub AreWired : List Mail → Type 0
AreWired mails = All (λ m. led_to m.ways.items ≡ named (map (λ m. m.inbox) mails)) mails

-- the same inbox, and nothing is late
abbrev pub none_late : Way → Way
none_late a = record { port = a.port; late = record { opening = None; request = None; decision = None } }

-- a message is put behind all others; or 256 messages wait, and it is late if it tells how far its sender is
abbrev pub IsPut : Way → Sent → Way → Type 0
IsPut a sent b =
    (b.port.queue ≡ a.port.queue)
    × ((Puts a.port.view sent b.port.view × (b.late ≡ a.late))
    ⊎ (HasHeld 256 a.port.view × (b.port ≡ a.port) × (b.late ≡ kept_with sent.message.body sent a.late)))

-- the same, if there is one
abbrev pub IsPutIfAny : Way → Option Sent → Way → Type 0
IsPutIfAny a None b = b ≡ a
IsPutIfAny a (Some sent) b = IsPut a sent b

-- what was late is put once more, each after the one before: the request, the estimate or proposal, the decision
abbrev pub IsPutLate : Way → Way → Type 0
IsPutLate a b =
    (c : Way) × (d : Way) × IsPutIfAny (none_late a) a.late.request c × IsPutIfAny c (sent_of a.late.opening) d
    × IsPutIfAny d (sent_of a.late.decision) b

-- the oldest message is taken out of the inbox, and kept if it tells how far its sender is; or none waits
abbrev pub IsTaken : Mail → Option Sent → Mail → Type 0
IsTaken a None b = (b ≡ a) × HasHeld 0 a.inbox.view
IsTaken a (Some sent) b =
    (b.inbox.queue ≡ a.inbox.queue) × Takes a.inbox.view sent b.inbox.view × (b.ways ≡ a.ways) × (b.kept ≡ kept_with sent.message.body sent a.kept)

-- it is the mail of the same inbox, with the ways as they were
abbrev pub HasSameEnds : Mail → Mail → Type 0
HasSameEnds a b = (b.inbox.queue ≡ a.inbox.queue) × (b.ways ≡ a.ways)

-- a message is put by one of these ways, where there is one, which is then so; the others stay
abbrev pub PutsBy : Option Way → ℕ → Sent → List Way → List Way → Type 0
PutsBy None to sent ws vs = vs ≡ ws
PutsBy (Some a) to sent ws vs = (b : Way) × IsPut a sent b × (vs ≡ slice_set ws to b)

-- a message is put by the way to this node, and by no other. Nothing is taken
abbrev pub IsPutTo : ℕ → Sent → Mail → Mail → Type 0
IsPutTo to sent a b = (b.inbox ≡ a.inbox) × (b.kept ≡ a.kept) × PutsBy (slice_get a.ways.items to) to sent a.ways.items b.ways.items

-- what was late is put once more by one of these ways, where there is one, which is then so; the others stay
abbrev pub PutsLateBy : Option Way → ℕ → List Way → List Way → Type 0
PutsLateBy None place ws vs = vs ≡ ws
PutsLateBy (Some a) place ws vs = (b : Way) × IsPutLate a b × (vs ≡ slice_set ws place b)

abbrev pub IsLatePutAt : ℕ → Mail → Mail → Type 0
IsLatePutAt place a b = (b.inbox ≡ a.inbox) × (b.kept ≡ a.kept) × PutsLateBy (slice_get a.ways.items place) place a.ways.items b.ways.items

-- what was late is put once more by each way
abbrev pub EachPutLate : List Way → List Way → Type 0
EachPutLate ws vs = (length vs ≡ length ws) × ((p : ℕ) (d : Way) → p < length ws → IsPutLate (slice_index_or ws p d) (slice_index_or vs p d))

abbrev pub AllPutLate : Mail → Mail → Type 0
AllPutLate a b = (b.inbox ≡ a.inbox) × (b.kept ≡ a.kept) × EachPutLate a.ways.items b.ways.items
