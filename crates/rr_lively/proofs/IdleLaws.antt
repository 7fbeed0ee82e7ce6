-- An event of which nothing is told, and after which its node waits as before, has changed nothing.
use Rattle.std.proofs.Common.{◌≡◌, inl, inr, ℕ, zero, suc, Bool, true, false, List, [], ◌∷◌, ◌++◌, length, Option, None, Some, Ok, Err, refl, ap, sym, ◌∙◌, subst, arith}
use Rattle.std.specs.Prelude.{if◌then◌else◌, slice_get, slice_set}
use Rattle.std.specs.Option.{option_map_or}
use Rattle.std.proofs.lemmas.List.{append-nil, length-append}
use Rattle.rr_types.specs.declared.command.Reply.{Reply}
use Rattle.rr_types.specs.declared.command.RequestNo.{RequestNo}
use Rattle.rr_types.specs.declared.message.Message.{Message}
use Rattle.rr_types.specs.declared.refusal.Refusal.TheVariants as because
use Rattle.rr_types.specs.Registry.{reply_of}
use Rattle.rr_model.specs.NodeState.{NodeState, decided_prefix}
use Rattle.rr_model.specs.NodeStep.{group_taken, next_leaving, message_left, next_acknowledged, acknowledged}
use Rattle.rr_types.specs.declared.event.NodeEvent.{NodeEvent}
use Rattle.rr_types.specs.declared.event.NodeEvent.TheVariants as node
use Rattle.rr_node.specs.declared.event.Outcome.TheVariants.{Quiet, Left, Replied}
use Rattle.rr_node.specs.declared.event.Stance.TheVariants as waits
use Rattle.rr_node.specs.Seats.{Seat, Answer, Doing, Stopped, Faulted, Opening, Serving, Flush, Resting, Writing, Flushed, Switching, Journaled, goes_on, refuse, by_doing, take_up, seat_step}
use Rattle.rr_node.specs.Stances.{stance_of}
use Rattle.rr_journal.specs.Calls.{Call}
use Rattle.rr_text.specs.declared.event.Event.{Event}
use Rattle.rr_text.specs.declared.event.Happening.{Happening}
use Rattle.rr_text.specs.declared.event.Happening.TheVariants.{At, Fail}
use Rattle.rr_text.specs.declared.report.ReportLine.{ReportLine}
use Rattle.rr_text.specs.declared.report.ReportLine.TheVariants as line
use Rattle.rr_text.specs.Words.{spaced}
use Rattle.rr_text.specs.ReportTexts.{report_words}
use Rattle.rr_text.specs.ReportTexts as texts
use Rattle.rr_sim.specs.Clusters.{Cluster, note_of, with_answer, happens}
use Rattle.rr_sim.specs.Random.{StepsInMemory}
use Rattle.rr_sim.specs.Told.{told}
use Rattle.rr_sim.proofs.ClusterLaws.{get_here}
use Rattle.rr_lively.specs.Lively.{LeavesAll, MayStay}

-- the answer of a node that nothing changes
abbrev idle : Seat → Answer
idle seat = (Ok Quiet, seat)

module _ (p at sent : ℕ) where
  -- nothing is told of an answer
  abbrev IsUntold : Answer → Type 0
  IsUntold answer = note_of p at sent answer.0 ≡ []

  sent_off : (s : NodeState) (journal : Journaled) (flush : Flush) (seat : Seat) (o : Option Message)
      → IsUntold (option_map_or (λ m. goes_on (Left m) (Serving (message_left s) journal flush) seat) o (idle seat))
      → option_map_or (λ m. goes_on (Left m) (Serving (message_left s) journal flush) seat) o (idle seat) ≡ idle seat
  sent_off s journal flush seat None is = refl
  sent_off s journal flush seat (Some m) is = absurd (let no : line.Send sent m ∷ [] ≡ [] = is in cc)

  send_stays : (seat : Seat) (doing : Doing) → IsUntold (by_doing node.Send seat doing) → by_doing node.Send seat doing ≡ idle seat
  send_stays seat Stopped is = absurd (let no : line.Refuse at because.Down ∷ [] ≡ [] = is in cc)
  send_stays seat Faulted is = absurd (let no : line.Refuse at because.Failed ∷ [] ≡ [] = is in cc)
  send_stays seat (Opening phase) is = absurd (let no : line.Refuse at because.Down ∷ [] ≡ [] = is in cc)
  send_stays seat (Serving s journal flush) is = sent_off s journal flush seat (next_leaving s) is

  replied : (s : NodeState) (journal : Journaled) (flush : Flush) (seat : Seat) (q : RequestNo) (o : Option Reply)
      → IsUntold (option_map_or (λ reply. goes_on (Replied q reply) (Serving (acknowledged s) journal flush) seat) o (idle seat))
      → option_map_or (λ reply. goes_on (Replied q reply) (Serving (acknowledged s) journal flush) seat) o (idle seat) ≡ idle seat
  replied s journal flush seat q None is = refl
  replied s journal flush seat q (Some reply) is = absurd (let no : line.Ack p q reply ∷ [] ≡ [] = is in cc)

  replied_off : (s : NodeState) (journal : Journaled) (flush : Flush) (seat : Seat) (o : Option RequestNo)
      → IsUntold (option_map_or (λ q. option_map_or (λ reply. goes_on (Replied q reply) (Serving (acknowledged s) journal flush) seat) (reply_of (decided_prefix s) q) (idle seat)) o (idle seat))
      → option_map_or (λ q. option_map_or (λ reply. goes_on (Replied q reply) (Serving (acknowledged s) journal flush) seat) (reply_of (decided_prefix s) q) (idle seat)) o (idle seat) ≡ idle seat
  replied_off s journal flush seat None is = refl
  replied_off s journal flush seat (Some q) is = replied s journal flush seat q (reply_of (decided_prefix s) q) is

  ack_stays : (seat : Seat) (doing : Doing) → IsUntold (by_doing node.Acknowledge seat doing) → by_doing node.Acknowledge seat doing ≡ idle seat
  ack_stays seat Stopped is = absurd (let no : line.Refuse at because.Down ∷ [] ≡ [] = is in cc)
  ack_stays seat Faulted is = absurd (let no : line.Refuse at because.Failed ∷ [] ≡ [] = is in cc)
  ack_stays seat (Opening phase) is = absurd (let no : line.Refuse at because.Down ∷ [] ≡ [] = is in cc)
  ack_stays seat (Serving s journal flush) is = replied_off s journal flush seat (next_acknowledged s) is

  taken : (s : NodeState) (journal : Journaled) (calls : List Call) (seat : Seat) (empty fits : Bool)
      → IsUntold (if empty then idle seat else (if fits then goes_on Quiet (Serving (group_taken s) journal (Writing calls)) seat else refuse because.TooLarge seat))
      → stance_of (if empty then idle seat else (if fits then goes_on Quiet (Serving (group_taken s) journal (Writing calls)) seat else refuse because.TooLarge seat)).1.doing ≡ waits.Resting
      → (if empty then idle seat else (if fits then goes_on Quiet (Serving (group_taken s) journal (Writing calls)) seat else refuse because.TooLarge seat)) ≡ idle seat
  taken s journal calls seat true fits is rests = refl
  taken s journal calls seat false true is rests = absurd (let no : waits.Calling ≡ waits.Resting = rests in cc)
  taken s journal calls seat false false is rests = absurd (let no : line.Refuse at because.TooLarge ∷ [] ≡ [] = is in cc)

  take_stays : (seat : Seat) (doing : Doing) → IsUntold (by_doing node.Take seat doing) → stance_of (by_doing node.Take seat doing).1.doing ≡ waits.Resting → by_doing node.Take seat doing ≡ idle seat
  take_stays seat Stopped is rests = absurd (let no : line.Refuse at because.Down ∷ [] ≡ [] = is in cc)
  take_stays seat Faulted is rests = absurd (let no : line.Refuse at because.Failed ∷ [] ≡ [] = is in cc)
  take_stays seat (Opening phase) is rests = absurd (let no : line.Refuse at because.Down ∷ [] ≡ [] = is in cc)
  take_stays seat (Serving s journal Resting) is rests = taken s journal _ seat _ _ is rests
  take_stays seat (Serving s journal (Writing calls)) is rests = absurd (let no : line.Refuse at because.Busy ∷ [] ≡ [] = is in cc)
  take_stays seat (Serving s journal Flushed) is rests = absurd (let no : line.Refuse at because.Busy ∷ [] ≡ [] = is in cc)
  take_stays seat (Serving s journal (Switching calls)) is rests = absurd (let no : line.Refuse at because.Busy ∷ [] ≡ [] = is in cc)

-- ---- the cluster

put_back : {X : Type 0} (xs : List X) (p : ℕ) (x : X) → slice_get xs p ≡ Some x → slice_set xs p x ≡ xs
put_back [] p x e = absurd (let no : None ≡ Some x = e in cc)
put_back (z ∷ xs) zero x e = ap (λ y. y ∷ xs) (let f : Some z ≡ Some x = e in let g : x ≡ z = cc in g)
put_back (z ∷ xs) (suc p) x e = ap (λ ys. z ∷ ys) (put_back xs p x e)

with_idle : (p at : ℕ) (c : Cluster) (seat : Seat) → slice_get c.seats p ≡ Some seat → with_answer p at c (idle seat) ≡ c
with_idle p at c seat there = λ i. record { seats = put_back c.seats p seat there i; wire = append-nil c.wire i; lines = append-nil c.lines i }

right_empty : {X : Type 0} (xs ys : List X) → xs ++ ys ≡ [] → ys ≡ []
right_empty [] ys is = is
right_empty (x ∷ xs) ys is = absurd (let no : x ∷ (xs ++ ys) ≡ [] = is in cc)

module _ (event : NodeEvent Message) (p at : ℕ) (c : Cluster) where
  abbrev next_by : Option Seat → Cluster
  next_by o = option_map_or (λ seat. with_answer p at c (seat_step event seat)) o c

  stays_by : (o : Option Seat) → slice_get c.seats p ≡ o → (next_by o).lines ≡ []
      → ((seat : Seat) → slice_get c.seats p ≡ Some seat → IsUntold p at (length c.wire) (seat_step event seat) → seat_step event seat ≡ idle seat) → next_by o ≡ c
  stays_by None there is stays = refl
  stays_by (Some seat) there is stays =
      let same = stays seat there (right_empty c.lines (note_of p at (length c.wire) (seat_step event seat).0) is) in
      ap (with_answer p at c) same ∙ with_idle p at c seat there

took : (p at : ℕ) (c : Cluster) (seat next : Seat) → slice_get c.seats p ≡ Some seat → slice_get (with_answer p at c (seat_step node.Take seat)).seats p ≡ Some next → next ≡ (seat_step node.Take seat).1
took p at c seat next there is =
    let here : slice_get (with_answer p at c (seat_step node.Take seat)).seats p ≡ Some (seat_step node.Take seat).1 = get_here c.seats p seat (seat_step node.Take seat).1 there in
    let both : Some next ≡ Some (seat_step node.Take seat).1 = sym is ∙ here in cc

take_by : (p at : ℕ) (c : Cluster) (o : Option Seat) → slice_get c.seats p ≡ o → (next_by node.Take p at c o).lines ≡ []
    → (next : Seat) → slice_get (next_by node.Take p at c o).seats p ≡ Some next → stance_of next.doing ≡ waits.Resting → next_by node.Take p at c o ≡ c
take_by p at c None there is next get rests = refl
take_by p at c (Some seat) there is next get rests =
    let untold = right_empty c.lines (note_of p at (length c.wire) (seat_step node.Take seat).0) is in
    let resting : stance_of (seat_step node.Take seat).1.doing ≡ waits.Resting = ap (λ (x : Seat). stance_of x.doing) (sym (took p at c seat next there get)) ∙ rests in
    let same = take_stays p at (length c.wire) seat seat.doing untold resting in
    ap (with_answer p at c) same ∙ with_idle p at c seat there

may_step : (p at : ℕ) (what : Happening) (old : Cluster) → (happens p at false what old).lines ≡ [] → LeavesAll (record (happens p at false what old) { lines = [] }) p what → happens p at false what old ≡ old
may_step p at (At node.Send) old none may = stays_by node.Send p at old (slice_get old.seats p) refl none (λ seat there untold. send_stays p at (length old.wire) seat seat.doing untold)
may_step p at (At node.Acknowledge) old none may = stays_by node.Acknowledge p at old (slice_get old.seats p) refl none (λ seat there untold. ack_stays p at (length old.wire) seat seat.doing untold)
may_step p at (At node.Take) old none (seat, there, rests) = take_by p at old (slice_get old.seats p) refl none seat there rests
may_step p at what old none may = absurd may

failing_goes : (p : ℕ) (what : Happening) (c : Cluster) (fill : List ℕ) → what ≡ Fail fill → LeavesAll c p what → ⊥
failing_goes p what c fill is may = subst (λ (x : Happening). LeavesAll c p x) is may

pub unchanged : (at : ℕ) (e : Event) (old next : Cluster) → StepsInMemory at e old next → next.lines ≡ [] → MayStay (record next { lines = [] }) e → next ≡ old
unchanged at e old next (inl is) none may =
    is ∙ may_step e.node at e.what old (ap (λ (c : Cluster). c.lines) (sym is) ∙ none) (subst (λ (c : Cluster). MayStay (record c { lines = [] }) e) is may)
unchanged at e old next (inr ((fill, fails), is)) none may = absurd (failing_goes e.node e.what (record next { lines = [] }) fill fails may)

-- ---- a text that hasn't grown

pub nothing_told : (lines : List ReportLine) (text : List ℕ) → length (text ++ told lines) ≡ length text → lines ≡ []
nothing_told [] text is = refl
nothing_told (l ∷ ls) text is =
    let whole = length-append text (told (l ∷ ls)) in
    let both = length-append (texts.line (report_words l)) (told ls) in
    let first = length-append (spaced (report_words l)) (10 ∷ []) in
    absurd (omega (is, whole, both, first, arith))
