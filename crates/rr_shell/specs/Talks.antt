-- The talk of a shell with n nodes, which answers with JSON or in words. What those whom it asks have done is what `Did` says.
use Rattle.std.specs.Prelude.{◌≡◌, ℕ, ◌+◌, ◌++◌, if◌then◌else◌, Bool, true, false, ◌&&◌, ◌==◌, List, [], Option, None, Some, Result, Ok, Err, Vec}
use Rattle.std.specs.Str.{bytes_eq}
use Rattle.std.specs.Io.BufRead.{strip_last}
use Rattle.std.specs.declared.alloc.Global.{Global}
use Rattle.rr_types.specs.declared.command.Op.{Op}
use Rattle.rr_types.specs.declared.command.Command.{Command}
use Rattle.rr_types.specs.declared.command.RequestNo.{RequestNo}
use Rattle.rr_text.specs.declared.answer.Answer.{Answer}
use Rattle.rr_text.specs.declared.answer.Answer.TheVariants.{Acknowledged, Unacknowledged, Free, Bound, Unseen}
use Rattle.rr_stream.specs.Streams.{Printing, Reading, IsPrinted}
use Rattle.rr_shell.specs.declared.hearing.Heard.{Heard}
use Rattle.rr_shell.specs.declared.hearing.Heard.TheVariants as heard
use Rattle.rr_shell.specs.declared.listing.Listing.{Listing}
use Rattle.rr_shell.specs.declared.outcome.Outcome.{Outcome}
use Rattle.rr_shell.specs.declared.outcome.Outcome.TheVariants as outcome
use Rattle.rr_shell.specs.declared.status.NodeStatus.{NodeStatus}
use Rattle.rr_shell.specs.declared.status.NodeTrouble.TheVariants as troubles
use Rattle.rr_shell.specs.declared.shell_line.ShellLine.{ShellLine}
use Rattle.rr_shell.specs.declared.shell_line.ShellLine.TheVariants.{Submit, Look, Names, Watch, Sync, At, Stop, Start, Snapshot, Status, Again, Help, Quit}
use Rattle.rr_shell.specs.declared.shell_line.LineFault.{LineFault}
use Rattle.rr_shell.specs.declared.shell_line.LineFault.TheVariants.{TooLong}
use Rattle.rr_shell.specs.declared.saying.Said.{Said}
use Rattle.rr_shell.specs.declared.talking.Turn.{Turn}
use Rattle.rr_shell.specs.declared.talking.Stop as breaks
use Rattle.rr_shell.specs.declared.watching.Watched.{Watched}
use Rattle.rr_shell.specs.Deeds.{Deed, waits, submits, repeats, catches_up, looks, lists, finds_off, stops, starts, snaps, tells}
use Rattle.rr_shell.specs.Hearings.{Hears}
use Rattle.rr_shell.specs.Watches.{IsShown, IsFrontSaid}
use Rattle.rr_explain.specs.declared.shell_word.ShellWord.{ShellWord}
use Rattle.rr_shell.specs.Lines.{tidied, shell_line_at}
use Rattle.rr_shell.specs.Troubles.{answer_trouble, outcome_trouble, sync_trouble, listing_trouble}
use Rattle.rr_shell.specs.declared.troubles.Trouble.{Trouble}
use Rattle.rr_shell.specs.declared.troubles.Trouble.TheVariants.{Error}
use Rattle.rr_shell.specs.Listings.{is_listing_at}
use Rattle.rr_shell.specs.Forms.{answer_said, outcome_said, sync_said, list_said, move_said, stop_said, start_said, snapshot_said, trouble_said, status_said, help_said, fault_said}

-- whether an answer is node p's to a submit
abbrev pub is_reply_at : ℕ → Answer → Bool
is_reply_at p (Acknowledged q request reply) = q == p
is_reply_at p (Unacknowledged q request) = q == p
is_reply_at p _ = false

-- the request that an answer is to
abbrev pub request_of : Answer → Option RequestNo
request_of (Acknowledged p q reply) = Some q
request_of (Unacknowledged p q) = Some q
request_of a = None

-- whether this came of a submit at node p
abbrev pub is_outcome_at : ℕ → Outcome → Bool
is_outcome_at p (outcome.Answered a) = is_reply_at p a
is_outcome_at p o = true

-- what came of a submit is of this request: an answer or another command names its number
abbrev pub IsOf : RequestNo → Outcome → Type 0
IsOf q (outcome.Answered a) = request_of a ≡ Some q
IsOf q outcome.ListFull = Unit {0}
IsOf q (outcome.Used other) = other.request ≡ q
IsOf q outcome.Nothing = ⊥
IsOf q outcome.Whole = ⊥

-- what is kept to be asked again behind a submit of this operation: the command with the request number of the answer where
-- that isn't acknowledged; else nothing
abbrev pub IsKept : Op → Option Command → Outcome → Type 0
IsKept op kept (outcome.Answered (Unacknowledged p q)) = kept ≡ Some (record { request = q; op = op })
IsKept op kept o = kept ≡ None

-- what comes of asking again: nothing where nothing was kept; else it is of the command that was kept, and what is kept then is
-- as behind a submit of it
abbrev pub IsAskedAgain : Option Command → Option Command → Outcome → Type 0
IsAskedAgain None kept o = (o ≡ outcome.Nothing) × (kept ≡ None)
IsAskedAgain (Some c) kept o = IsOf c.request o × IsKept c.op kept o

-- what may come of a sync by client c at node p: that the list is full, and all of it published; or it came of a submit of a request of this
-- client there
abbrev pub IsSyncBy : ℕ → ℕ → Outcome → Type 0
IsSyncBy c p outcome.Whole = Unit {0}
IsSyncBy c p o = (q : RequestNo) × (q.client ≡ c) × IsOf q o × (is_outcome_at p o ≡ true)

-- whether an answer is node p's to a look at this name
abbrev pub is_sight_at : ℕ → List ℕ → Answer → Bool
is_sight_at p name (Free q seen) = (q == p) && bytes_eq seen name
is_sight_at p name (Bound q seen owner value) = (q == p) && bytes_eq seen name
is_sight_at p name (Unseen q seen) = (q == p) && bytes_eq seen name
is_sight_at p name _ = false

-- what the first k nodes tell of themselves, a line each
pub data Stated (Did : Deed → Type 0) (json : Bool) : ℕ → List ℕ → Type 0 where
  nothing : Stated Did json 0 []
  more : {k : ℕ} {text : List ℕ} → Stated Did json k text → (s : NodeStatus) → s.node ≡ k → Did (tells s)
      → Stated Did json (k + 1) (text ++ status_said json s)

-- whether a line asks something of the node that is asked
abbrev pub asks_node : ShellLine → Bool
asks_node (Submit op) = true
asks_node (Look name) = true
asks_node (Names prefix) = true
asks_node (Watch prefix) = true
asks_node Sync = true
asks_node Again = true
asks_node _ = false

-- what is said to a line that asks for something at node p of n nodes, the node that is asked then, why that isn't what it
-- asks for, if it isn't, and what is watched until the next line. Said is what came of a submit, a look or a sync at node p, or
-- that this node was found not to be on; the names that it listed; the node that the line moves to, has stopped or has started; that a node
-- was started and has failed again; that a node
-- has written a snapshot, or hasn't; what each node told; or the commands
pub data Grants (Did : Deed → Type 0) (json : Bool) (n p : ℕ) : ShellLine → ℕ → List ℕ → Option Trouble → Option Watched → Type 0 where
  submitted : (op : Op) (o : Outcome) → is_outcome_at p o ≡ true → Did (submits p op o)
      → Grants Did json n p (Submit op) p (outcome_said json o) (outcome_trouble o) None
  again : (o : Outcome) → is_outcome_at p o ≡ true → Did (repeats p o) → Grants Did json n p Again p (outcome_said json o) (outcome_trouble o) None
  looked : (name : List ℕ) (a : Answer) → is_sight_at p name a ≡ true → Did (looks p name a)
      → Grants Did json n p (Look name) p (answer_said json a) (answer_trouble a) None
  synced : (o : Outcome) → is_outcome_at p o ≡ true → Did (catches_up p o) → Grants Did json n p Sync p (sync_said json o) (sync_trouble o) None
  listed : (prefix : Option (List ℕ)) (l : Listing) → is_listing_at p prefix l ≡ true → Did (lists p prefix l)
      → Grants Did json n p (Names prefix) p (list_said json l.names) (listing_trouble l.names) None
  watches : (prefix : Option (List ℕ)) → Grants Did json n p (Watch prefix) p [] None (Some (record { prefix = prefix }))
  is_down : (asks : ShellLine) → asks_node asks ≡ true → Did (finds_off p) → Grants Did json n p asks p (trouble_said troubles.Down json p) (Some Error) None
  moved : (q : ℕ) → Grants Did json n p (At q) q (move_said json q) None None
  stopped : (q : ℕ) → Did (stops q) → Grants Did json n p (Stop q) p (stop_said json q) None None
  started : (q : ℕ) → Did (starts q true) → Grants Did json n p (Start q) p (start_said json q) None None
  unstarted : (q : ℕ) → Did (starts q false) → Grants Did json n p (Start q) p (trouble_said troubles.NoStart json q) (Some Error) None
  written : (q : ℕ) → Did (snaps q true) → Grants Did json n p (Snapshot q) p (snapshot_said json q) None None
  unwritten : (q : ℕ) → Did (snaps q false) → Grants Did json n p (Snapshot q) p (trouble_said troubles.NoSnapshot json q) (Some Error) None
  stated : (text : List ℕ) → Stated Did json n text → Grants Did json n p Status p text None None
  helped : (word : Option ShellWord) → Grants Did json n p (Help word) p (help_said json word) None None

-- a line as it is read: its words, with one space between two of them, and without the carriage return that it ends with, if it does
abbrev pub line_of : Vec ℕ Global → List ℕ
line_of line = tidied (strip_last 13 line.items)

-- what is said to what was heard where node p is asked, the node that is asked then, why that isn't what the line asks for,
-- if it isn't, and what is watched until the next line: to a line what it asks for, or why it asks for nothing; nothing to a line without words;
-- and that a line is too long
pub data Exchange (Did : Deed → Type 0) (json : Bool) (n p : ℕ) : Heard → ℕ → List ℕ → Option Trouble → Option Watched → Type 0 where
  empty : (line : Vec ℕ Global) → line_of line ≡ [] → Exchange Did json n p (heard.Line line) p [] None None
  granted : (line : Vec ℕ Global) (asks : ShellLine) (q : ℕ) (said : List ℕ) (t : Option Trouble) (w : Option Watched)
      → shell_line_at n (line_of line) ≡ Ok asks → Grants Did json n p asks q said t w
      → Exchange Did json n p (heard.Line line) q said t w
  faulty : (line : Vec ℕ Global) (fault : LineFault) → shell_line_at n (line_of line) ≡ Err fault
      → Exchange Did json n p (heard.Line line) p (fault_said json n fault) (Some Error) None
  too_long : Exchange Did json n p heard.TooLong p (fault_said json n TooLong) (Some Error) None

-- what ends a talk: a line that asks for that, or the end of the input
abbrev pub IsLast : ℕ → Heard → Type 0
IsLast n (heard.Line line) = shell_line_at n (line_of line) ≡ Ok Quit
IsLast n heard.TooLong = ⊥
IsLast n heard.End = Unit {0}

-- what is said to a line that asks for this at node p of n; none where it asks for the end
abbrev pub IsSaidToRequest : (Deed → Type 0) → Bool → ℕ → ℕ → ShellLine → Option Said → Type 0
IsSaidToRequest Did json n p asks None = asks ≡ Quit
IsSaidToRequest Did json n p asks (Some said) = Grants Did json n p asks said.node said.text.items said.trouble said.watched

-- what is said to a sync at node p: what came of it there, of what may come of one
abbrev pub IsSaidToSync : (Deed → Type 0) → Bool → ℕ → (ℕ → Outcome → Type 0) → Said → Type 0
IsSaidToSync Did json p May said =
    (o : Outcome) × May p o × Did (catches_up p o) × (is_outcome_at p o ≡ true) × (said.node ≡ p) × (said.text.items ≡ sync_said json o)
    × (said.trouble ≡ sync_trouble o) × (said.watched ≡ None)

-- what is said to what was heard where node p is asked; none where the talk is over
abbrev pub IsSaidTo : (Deed → Type 0) → Bool → ℕ → ℕ → Heard → Option Said → Type 0
IsSaidTo Did json n p h None = IsLast n h
IsSaidTo Did json n p h (Some said) = Exchange Did json n p h said.node said.text.items said.trouble said.watched

-- a turn where node p is asked: something is heard, and what is watched is shown until then. Then what there is to say to it is
-- printed and flushed; or the talk is over, and nothing more is printed
abbrev pub IsTurn : (Deed → Type 0) → Bool → ℕ → ℕ → Option Watched → Reading → Reading → Printing → Printing → Option Turn → Type 0
IsTurn Did json n p w from to old new None = (h : Heard) × Hears from to h × IsLast n h × IsShown Did json p w old new
IsTurn Did json n p w from to old new (Some turn) =
    (h : Heard) × (said : List ℕ) × (mid : Printing) × Hears from to h × IsShown Did json p w old mid
    × Exchange Did json n p h turn.node said turn.trouble turn.watched × IsPrinted mid new said

-- why a talk ends behind a turn: strict, it ends where the line wasn't answered as it asked
abbrev pub ending_trouble : Bool → Option Trouble → Option Trouble
ending_trouble strict trouble = if strict then trouble else None

-- a talk so far that begins at a node, from an input and an output on: the node that is asked now, what is watched, and the input and the
-- output as they are now. The nodes were waited for before. Each line is answered, and the answer flushed, before the next is read
pub data Talk (Did : Deed → Type 0) (json strict : Bool) (n first : ℕ) (from : Reading) (old : Printing)
    : ℕ → Option Watched → Reading → Printing → Type 0 where
  begun : Did waits → Talk Did json strict n first from old first None from old
  said : {p : ℕ} {w : Option Watched} {r s : Reading} {a b : Printing} → Talk Did json strict n first from old p w r a → (turn : Turn)
      → IsTurn Did json n p w r s a b (Some turn) → ending_trouble strict turn.trouble ≡ None
      → Talk Did json strict n first from old turn.node turn.watched s b

-- a talk that is over: by a line that asks for that, or by the input; or by a line that wasn't answered as it asked, with the trouble
pub data HasTalked (Did : Deed → Type 0) (json strict : Bool) (n first : ℕ) (from to : Reading) (old new : Printing)
    : Option Trouble → Type 0 where
  over : {p : ℕ} {w : Option Watched} {r : Reading} {a : Printing} → Talk Did json strict n first from old p w r a
      → IsTurn Did json n p w r to a new None
      → HasTalked Did json strict n first from to old new None
  in_trouble : {p : ℕ} {w : Option Watched} {r : Reading} {a : Printing} → Talk Did json strict n first from old p w r a
      → (turn : Turn) (trouble : Trouble) → IsTurn Did json n p w r to a new (Some turn)
      → ending_trouble strict turn.trouble ≡ Some trouble
      → HasTalked Did json strict n first from to old new (Some trouble)

-- a talk that is broken off: before it begins; or a front of what a turn prints may have been printed
pub data BreaksOff (Did : Deed → Type 0) (json strict : Bool) (n first : ℕ) (from : Reading) (old new : Printing) : Type 0 where
  early : new ≡ old → BreaksOff Did json strict n first from old new
  late : {p : ℕ} {w : Option Watched} {r : Reading} {a : Printing} → Talk Did json strict n first from old p w r a → IsFrontSaid a new
      → BreaksOff Did json strict n first from old new

-- a talk that begins at a node of n: over, or broken off
abbrev pub Talks : (Deed → Type 0) → Bool → Bool → ℕ → ℕ → Reading → Reading → Printing → Printing → Result (Option Trouble) breaks.Stop → Type 0
Talks Did json strict n first from to old new (Ok trouble) = HasTalked Did json strict n first from to old new trouble
Talks Did json strict n first from to old new (Err stop) = BreaksOff Did json strict n first from old new
