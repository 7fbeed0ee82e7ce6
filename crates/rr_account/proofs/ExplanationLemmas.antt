-- The objects of events, one after the other.
use Rattle.std.proofs.Common.{◌≡◌, ◌≤◌, ◌++◌, ◌+◌, ◌-◌, ◌<◌, ◌∷◌, [], ℕ, List, Option, Some, length, take, drop, map, refl, ap, subst, sym, ◌∙◌, arith}
use Rattle.std.specs.Prelude.{None, slice_get, if◌then◌else◌, Bool}
use Rattle.std.specs.List.{flat_map}
use Rattle.std.proofs.lemmas.List.{append_assoc, append-nil, append_cancel_left, length-append, length-map, map-append, take_all}
use Rattle.std.proofs.lemmas.Grind.{flat_map-append}
use Rattle.rr_text.specs.declared.event.Event.{Event}
use Rattle.rr_text.specs.declared.report.ReportLine.{ReportLine}
use Rattle.rr_json.specs.Objects.{decided_objects}
use Rattle.rr_text.specs.declared.report.ReportLine.TheVariants as line
use Rattle.rr_account.specs.declared.outcome.Outcome.{Outcome}
use Rattle.rr_account.specs.declared.outcome.Outcome.TheVariants.{Quiet, Told, Idle}
use Rattle.rr_account.specs.declared.reasons.Reason.{Reason}
use Rattle.rr_account.specs.Accounts.{Accounted, lines_told, IsSharedOut}
use Rattle.rr_account.specs.Counts.{reason_of, is_idle}
use Rattle.rr_account.specs.Objects.{Happening, happening_object, happening_objects, came_to_nothing, lines_of, IsAnObject, IsExplanation}
use Rattle.rr_account.proofs.ShareLaws.{StandsAt, stands_first, share_here, take_next}

objects_more : (at : ℕ) (hs : List Happening) (h : Happening) → happening_objects at (hs ++ h ∷ []) ≡ happening_objects at hs ++ happening_object (at + length hs) h
objects_more at [] h = append-nil (happening_object at h) ∙ ap (λ (k : ℕ). happening_object k h) (omega arith)
objects_more at (x ∷ xs) h =
    ap (λ (t : List ℕ). happening_object at x ++ t) (objects_more (at + 1) xs h ∙ ap (λ (k : ℕ). happening_objects (at + 1) xs ++ happening_object k h) (omega arith))
    ∙ sym (append_assoc (happening_object at x) (happening_objects (at + 1) xs) (happening_object (at + length (x ∷ xs)) h))

lines_more : (hs : List Happening) (h : Happening) → flat_map (λ (x : Happening). lines_of x.line) (hs ++ h ∷ []) ≡ flat_map (λ (x : Happening). lines_of x.line) hs ++ lines_of h.line
lines_more hs h = flat_map-append (λ (x : Happening). lines_of x.line) hs (h ∷ []) ∙ ap (λ (t : List ReportLine). flat_map (λ (x : Happening). lines_of x.line) hs ++ t) (append-nil (lines_of h.line))

events_more : (hs : List Happening) (h : Happening) (rest : List Event) → map (λ (x : Happening). x.event) (hs ++ h ∷ []) ++ rest ≡ map (λ (x : Happening). x.event) hs ++ h.event ∷ rest
events_more [] h rest = refl
events_more (x ∷ xs) h rest = ap (λ (t : List Event). x.event ∷ t) (events_more xs h rest)

-- what is said of an event says if it came to nothing
idle_as_it_came : (o : Outcome) (l : Option ReportLine) → is_idle (reason_of o l) ≡ came_to_nothing o
idle_as_it_came Quiet l = refl
idle_as_it_came Told None = refl
idle_as_it_came Told (Some (line.Send k m)) = refl
idle_as_it_came Told (Some (line.Ack p q r)) = refl
idle_as_it_came Told (Some (line.Restart p facts decided bindings)) = refl
idle_as_it_came Told (Some (line.Refuse at e)) = refl
idle_as_it_came (Idle why) l = refl

-- by any shares, the objects so far have the lines of their events, and say which came to nothing
pub record SharedSoFar (account : Accounted) (shares : List (List ReportLine)) (index count : ℕ) (happenings : List Happening) : Type 0 where
  pub stands : StandsAt shares index count
  pub lines : map (λ (h : Happening). lines_of h.line) happenings ≡ take index shares
  pub idle : map (λ (h : Happening). h.idle) happenings ≡ map came_to_nothing (take index account.outcomes)

shared_next : (account : Accounted) (shares : List (List ReportLine)) (index at count next : ℕ) (is_told : Bool) (l : Option ReportLine) (reason : Reason) (happenings : List Happening) (h : Happening)
    → IsSharedOut account shares → SharedSoFar account shares index count happenings → at ≡ index + 2 → index < length account.schedule.events → h.line ≡ l → h.idle ≡ is_idle reason
    → take next account.report.lines ≡ take count account.report.lines ++ lines_of l
    → (count + (if is_told then 1 else 0) ≤ length account.report.lines → next ≡ count + (if is_told then 1 else 0))
    → ((outcome : Outcome) → slice_get account.outcomes (at - 2) ≡ Some outcome → count + lines_told outcome ≤ length account.report.lines → (if is_told then 1 else 0) ≡ lines_told outcome)
    → ((outcome : Outcome) → slice_get account.outcomes (at - 2) ≡ Some outcome → reason ≡ reason_of outcome (slice_get account.report.lines count))
    → SharedSoFar account shares (index + 1) next (happenings ++ h ∷ [])
shared_next account shares index at count next is_told l reason happenings h out s line_is within own idly on counted came said =
    let mine = share_here account shares index count out within s.stands in
    let place : at - 2 ≡ index = omega (arith, line_is) in
    let size : (if is_told then 1 else 0) ≡ lines_told mine.outcome = came mine.outcome (ap (slice_get account.outcomes) place ∙ mine.outcome_here) mine.fits in
    let is_idle_here : h.idle ≡ came_to_nothing mine.outcome =
    idly ∙ ap is_idle (said mine.outcome (ap (slice_get account.outcomes) place ∙ mine.outcome_here)) ∙ idle_as_it_came mine.outcome (slice_get account.report.lines count) in
    let goes : next ≡ count + length mine.share = omega (arith, size, mine.size, counted (omega (arith, size, mine.fits))) in
    let is : lines_of l ≡ mine.share =
    append_cancel_left (take count account.report.lines) (lines_of l) mine.share (sym on ∙ ap (λ (k : ℕ). take k account.report.lines) goes ∙ sym mine.front) in
    record {
      stands = subst (λ (k : ℕ). StandsAt shares (index + 1) k) (sym goes) mine.next;
      lines = map-append (λ (x : Happening). lines_of x.line) happenings (h ∷ []) ∙ ap (λ (ss : List (List ReportLine)). ss ++ lines_of h.line ∷ []) s.lines
          ∙ ap (λ (ls : List ReportLine). take index shares ++ ls ∷ []) (ap lines_of own ∙ is) ∙ sym (take_next shares index mine.share mine.here);
      idle = map-append (λ (x : Happening). x.idle) happenings (h ∷ []) ∙ ap (λ (bs : List Bool). bs ++ h.idle ∷ []) s.idle
          ∙ ap (λ (b : Bool). map came_to_nothing (take index account.outcomes) ++ b ∷ []) is_idle_here
          ∙ sym (map-append came_to_nothing (take index account.outcomes) (mine.outcome ∷ [])) ∙ ap (map came_to_nothing) (sym (take_next account.outcomes index mine.outcome mine.outcome_here));
    }

-- the events so far have their objects, and so many lines of the report stand in them
pub record ToldSoFar (account : Accounted) (index at count : ℕ) (text : List ℕ) : Type 0 where
  pub happenings : List Happening
  pub split : map (λ (h : Happening). h.event) happenings ++ drop index account.schedule.events ≡ account.schedule.events
  pub counted : length happenings ≡ index
  pub line_is : at ≡ index + 2
  pub lines : flat_map (λ (h : Happening). lines_of h.line) happenings ≡ take count account.report.lines
  pub each : (shares : List (List ReportLine)) → IsSharedOut account shares → SharedSoFar account shares index count happenings
  pub text_is : text ≡ happening_objects 2 happenings

unfoldable pub told_none : (account : Accounted) → ToldSoFar account 0 2 0 []
told_none account = record { happenings = []; split = refl; counted = refl; line_is = refl; lines = refl; each = λ shares out. record { stands = stands_first shares; lines = refl; idle = refl }; text_is = refl }

pub told_more : (account : Accounted) (index at count next : ℕ) (is_told : Bool) (e : Event) (l : Option ReportLine) (reason : Reason) (text all : List ℕ) → ToldSoFar account index at count text
    → drop index account.schedule.events ≡ e ∷ drop (index + 1) account.schedule.events → take next account.report.lines ≡ take count account.report.lines ++ lines_of l
    → IsAnObject at e l (is_idle reason) text all → index < length account.schedule.events
    → (count + (if is_told then 1 else 0) ≤ length account.report.lines → next ≡ count + (if is_told then 1 else 0))
    → ((outcome : Outcome) → slice_get account.outcomes (at - 2) ≡ Some outcome → count + lines_told outcome ≤ length account.report.lines → (if is_told then 1 else 0) ≡ lines_told outcome)
    → ((outcome : Outcome) → slice_get account.outcomes (at - 2) ≡ Some outcome → reason ≡ reason_of outcome (slice_get account.report.lines count))
    → ToldSoFar account (index + 1) (at + 1) next all
told_more account index at count next is_told e l reason text all s first on one inside counted came said =
    let h : Happening = record { event = e; line = l; idle = is_idle reason; note = one.note } in
    record {
      happenings = s.happenings ++ h ∷ [];
      split = events_more s.happenings h (drop (index + 1) account.schedule.events) ∙ ap (λ (es : List Event). map (λ (x : Happening). x.event) s.happenings ++ es) (sym first) ∙ s.split;
      counted = (let k = length-append s.happenings (h ∷ []) in omega (k, s.counted, arith));
      line_is = omega (s.line_is, arith);
      each = λ shares out. shared_next account shares index at count next is_told l reason s.happenings h out (s.each shares out) s.line_is inside refl refl on counted came said;
      lines = lines_more s.happenings h ∙ ap (λ (ls : List ReportLine). ls ++ lines_of l) s.lines ∙ sym on;
      text_is = one.grew ∙ ap (λ (t : List ℕ). t ++ happening_object at h) s.text_is ∙ ap (λ (k : ℕ). happening_objects 2 s.happenings ++ happening_object k h) (omega (s.line_is, s.counted, arith)) ∙ sym (objects_more 2 s.happenings h);
    }

-- what happened by then
pub told_more_has : (account : Accounted) (index at count next : ℕ) (is_told : Bool) (e : Event) (l : Option ReportLine) (reason : Reason) (text all : List ℕ) (s : ToldSoFar account index at count text)
    (first : drop index account.schedule.events ≡ e ∷ drop (index + 1) account.schedule.events) (on : take next account.report.lines ≡ take count account.report.lines ++ lines_of l)
    (one : IsAnObject at e l (is_idle reason) text all) (inside : index < length account.schedule.events)
    (counted : count + (if is_told then 1 else 0) ≤ length account.report.lines → next ≡ count + (if is_told then 1 else 0))
    (came : (outcome : Outcome) → slice_get account.outcomes (at - 2) ≡ Some outcome → count + lines_told outcome ≤ length account.report.lines → (if is_told then 1 else 0) ≡ lines_told outcome)
    (said : (outcome : Outcome) → slice_get account.outcomes (at - 2) ≡ Some outcome → reason ≡ reason_of outcome (slice_get account.report.lines count))
    → (told_more account index at count next is_told e l reason text all s first on one inside counted came said).happenings
    ≡ s.happenings ++ record { event = e; line = l; idle = is_idle reason; note = one.note } ∷ []
unfolding told_more
told_more_has account index at count next is_told e l reason text all s first on one inside counted came said = refl

unfoldable pub told_end : (account : Accounted) (index at count : ℕ) (text all : List ℕ) → ToldSoFar account index at count text → drop index account.schedule.events ≡ []
    → all ≡ text ++ decided_objects account.report.decided → length account.schedule.events ≤ index → IsExplanation account all
told_end account index at count text all s none is past = record {
  happenings = s.happenings;
  count = count;
  events = sym (append-nil (map (λ (h : Happening). h.event) s.happenings)) ∙ ap (λ (es : List Event). map (λ (h : Happening). h.event) s.happenings ++ es) (sym none) ∙ s.split;
  lines = s.lines;
  each = λ shares out. (s.each shares out).lines ∙ take_all index shares (omega (arith, past, out.one_each));
  idle = λ shares out.
      (s.each shares out).idle
      ∙ ap (map came_to_nothing) (take_all index account.outcomes (omega (arith, past, out.one_each, ap length out.counts, length-map shares (length {A = ReportLine}), length-map account.outcomes lines_told)));
  text_is = is ∙ ap (λ (t : List ℕ). t ++ decided_objects account.report.decided) s.text_is;
}

-- four texts that are appended in turn
pub four_more : (old a b c d first second third new : List ℕ) → first ≡ old ++ a → second ≡ first ++ b → third ≡ second ++ c → new ≡ third ++ d → new ≡ old ++ (a ++ b ++ c ++ d)
four_more old a b c d first second third new one two three four =
    four ∙ ap (λ (t : List ℕ). t ++ d) (three ∙ ap (λ (t : List ℕ). t ++ c) (two ∙ ap (λ (t : List ℕ). t ++ b) one ∙ append_assoc old a b) ∙ append_assoc old (a ++ b) c)
    ∙ append_assoc old (a ++ b ++ c) d
