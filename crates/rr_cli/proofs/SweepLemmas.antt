-- A sweep that is printed as it goes, event by event.
use Rattle.std.proofs.Common.{◌≡◌, inl, inr, ℕ, ◌+◌, ◌<◌, ◌≤◌, List, [], ◌∷◌, ◌++◌, get_or, length, take, drop, append-nil, append_assoc, refl, sym, ◌∙◌, ap, subst, arith}
use Rattle.std.specs.List.{AllByRecursion}
use Rattle.std.specs.Io.KnownBytes.{Appends}
use Rattle.std.proofs.KnownBytes.{Appends-nil, Appends-trans}
use Rattle.std.proofs.lemmas.List.{take-append-drop, take_more, drop_more, length-take-le}
use Rattle.std.proofs.lemmas.List.Concat.{flat_map-append}
use Rattle.std.proofs.lemmas.List.Elements.{All-from_recursion}
use Rattle.rr_types.specs.declared.refusal.Refusal.{Refusal}
use Rattle.rr_types.specs.Counts.{Grew}
use Rattle.rr_text.specs.declared.event.Event.{Event}
use Rattle.rr_text.specs.Scheduled.{Scheduled, IsEvent, IsSchedule}
use Rattle.rr_text.specs.ScheduleTexts.{schedule_text}
use Rattle.rr_stream.specs.Streams.{Printing, IsFrontPrinted}
use Rattle.rr_sim.specs.declared.sweeping.SweepLine.{SweepLine}
use Rattle.rr_sim.specs.declared.sweeping.Sweeping.{Sweeping}
use Rattle.rr_sim.specs.Sweeps.{HasSwept, IsNext, IsSweep}
use Rattle.rr_sim.specs.SweepTexts.{sweep_line}
use Rattle.rr_cli.specs.declared.sweep.Stop.{Stop}
use Rattle.rr_cli.specs.declared.sweep.Stop.TheVariants.{Refused, Unprinted}
use Rattle.rr_cli.specs.Ends as ends
use Rattle.rr_cli.specs.Ends.{EndsOnSweep, Prints, broken_off, cut_short, printed, sweep_text}
use Rattle.rr_cli.specs.Refusals.{status_of}
use Rattle.rr_cli.specs.Sweeping.{IsPrintedBy, StopsPrinting, StopsAtEvent, StopsSweep}

pub text_of_both : (xs ys : List SweepLine) → sweep_text (xs ++ ys) ≡ sweep_text xs ++ sweep_text ys
text_of_both xs ys = flat_map-append sweep_line xs ys

pub grew_on : (a b c : ℕ) → a ≤ b → Grew b c → Grew a c
grew_on a b c le (inl more) = inl (omega (arith, le, more))
grew_on a b c le (inr end) = inr end

-- a text that is taken is a front of it
front_of : (old new : Printing) (text : List ℕ) → Appends old.contents new.contents text → IsFrontPrinted old new text
front_of old new text taken = (text, [], sym (append-nil text), taken)

-- a front behind a text
front_behind : (old mid new : Printing) (text more : List ℕ) → Appends old.contents mid.contents text → IsFrontPrinted mid new more → IsFrontPrinted old new (text ++ more)
front_behind old mid new text more taken (front, rest, split, on) =
    (text ++ front, rest, ap (λ (t : List ℕ). text ++ t) split ∙ sym (append_assoc text front rest), Appends-trans old.contents mid.contents new.contents text front taken on)

-- the lines that a sweep has had are those of the sweep of its events
pub is_sweep : (n m seed : ℕ) (events : List Event) (lines : List SweepLine) (sweeping : Sweeping) → HasSwept n m seed events lines sweeping → IsSweep n events seed lines
is_sweep n m seed events lines sweeping has =
    let all : IsSweep n (events ++ []) seed (lines ++ []) = has.swept [] [] refl in
    subst (λ (es : List Event). IsSweep n es seed lines) (append-nil events) (subst (λ (ls : List SweepLine). IsSweep n (events ++ []) seed ls) (append-nil lines) all)

-- the event at a place is the next one
pub next_at : (n seed : ℕ) (events : List Event) (i at : ℕ) (e : Event) (lines : List SweepLine) (sweeping : Sweeping) → HasSwept n n seed (take i events) lines sweeping
    → AllByRecursion (IsEvent n) events → i < length events → e ≡ get_or events i e → at ≡ i + 2 → IsNext n n seed (take i events) lines at e sweeping
next_at n seed events i at e lines sweeping has each below is line =
    let event : IsEvent n e = subst (λ (x : Event). IsEvent n x) (sym is) (All-from_recursion (IsEvent n) events each i e below) in
    let count : length (take i events) ≡ i = length-take-le i events (omega (arith, below)) in
    record {
      swept = has;
      is_event = event;
      there = event.node;
      line = omega (arith, line, count);
    }

-- the events up to one behind a place
pub taken_more : (events : List Event) (i : ℕ) (e : Event) → i < length events → e ≡ get_or events i e → take i events ++ e ∷ [] ≡ take (i + 1) events
taken_more events i e below is = sym (take_more events i e below ∙ ap (λ (x : Event). take i events ++ x ∷ []) (sym is))

-- the events before a place, the one there, and those behind it
pub split_at : (events : List Event) (i : ℕ) (e : Event) → i < length events → e ≡ get_or events i e → events ≡ take i events ++ (e ∷ drop (i + 1) events)
split_at events i e below is =
    let rest : drop i events ≡ e ∷ drop (i + 1) events = drop_more events i e below ∙ ap (λ (x : Event). x ∷ drop (i + 1) events) (sym is) in
    sym (take-append-drop i events) ∙ ap (λ (es : List Event). take i events ++ es) rest

-- nothing is printed before the first event
abbrev pub printed_none : (n seed : ℕ) (old : Printing) → IsPrintedBy n seed [] old old
printed_none n seed old = record { lines = []; swept = refl; taken = Appends-nil old.contents; faults = omega arith }

-- so far, and one event more
abbrev pub printed_more : (n seed : ℕ) (before after : List Event) (old mid new : Printing) (more : List SweepLine) (p : IsPrintedBy n seed before old mid) → IsSweep n after seed (p.lines ++ more)
    → Appends mid.contents new.contents (sweep_text more) → mid.faults ≤ new.faults → IsPrintedBy n seed after old new
printed_more n seed before after old mid new more p swept taken faults = record {
  lines = p.lines ++ more;
  swept = swept;
  taken = subst (λ (t : List ℕ). Appends old.contents new.contents t) (sym (text_of_both p.lines more)) (Appends-trans old.contents mid.contents new.contents (sweep_text p.lines) (sweep_text more) p.taken taken);
  faults = omega (arith, p.faults, faults);
}

-- lines of an event that aren't all printed
pub stops_here : (n seed : ℕ) (events : List Event) (lines more : List SweepLine) (stop : Stop) (old new : Printing) → IsSweep n events seed (lines ++ more)
    → StopsPrinting (sweep_text more) stop old new → StopsAtEvent n seed events lines stop old new
stops_here n seed events lines more (Refused refusal) old new swept stops = stops
stops_here n seed events lines more (Unprinted error) old new swept (grew, front) = (more, swept, grew, front)

-- a sweep that stops at an event
pub stops_at : (n seed : ℕ) (events before here after : List Event) (old mid new : Printing) (stop : Stop) (p : IsPrintedBy n seed before old mid) → events ≡ before ++ (here ++ after)
    → StopsAtEvent n seed (before ++ here) p.lines stop mid new → StopsSweep n seed events stop old new
stops_at n seed events before here after old mid new (Refused refusal) p split (is, same) = record {
  before = before;
  after = here ++ after;
  split = split;
  lines = p.lines;
  swept = p.swept;
  taken = subst (λ (x : Printing). IsFrontPrinted old x (sweep_text p.lines)) (sym same) (front_of old mid (sweep_text p.lines) p.taken);
  why = is;
}
stops_at n seed events before here after old mid new (Unprinted error) p split (more, swept, grew, front) = record {
  before = before ++ here;
  after = after;
  split = split ∙ sym (append_assoc before here after);
  lines = p.lines ++ more;
  swept = swept;
  taken = subst (λ (t : List ℕ). IsFrontPrinted old new t) (sym (text_of_both p.lines more)) (front_behind old mid new (sweep_text p.lines) (sweep_text more) p.taken front);
  why = grew_on old.faults mid.faults new.faults p.faults grew;
}

-- a sweep that is printed to its end, and flushed or not
pub swept_ends : (schedule : Scheduled) (bytes : List ℕ) (seed status : ℕ) (old mid new : Printing) → IsSchedule schedule → bytes ≡ schedule_text schedule
    → IsPrintedBy schedule.nodes seed schedule.events old mid → Prints [] status mid new → EndsOnSweep seed bytes status old new
swept_ends schedule bytes seed status old mid new lawful text p (printed done (taken, flushed)) =
    let all : Appends old.contents new.contents (sweep_text p.lines) = subst (λ (t : List ℕ). Appends old.contents new.contents t) (append-nil (sweep_text p.lines)) (Appends-trans old.contents mid.contents new.contents (sweep_text p.lines) [] p.taken taken) in
    ends.swept schedule p.lines lawful text p.swept done (all, flushed)
swept_ends schedule bytes seed status old mid new lawful text p (cut_short failed grew front) =
    let all : IsFrontPrinted old new (sweep_text p.lines) = subst (λ (t : List ℕ). IsFrontPrinted old new t) (append-nil (sweep_text p.lines)) (front_behind old mid new (sweep_text p.lines) [] p.taken front) in
    broken_off schedule schedule.events [] p.lines lawful text (sym (append-nil schedule.events)) p.swept all (inr (failed, grew_on old.faults mid.faults new.faults p.faults grew))

-- a sweep that memory broke off
pub refused_ends : (schedule : Scheduled) (bytes : List ℕ) (seed status : ℕ) (refusal : Refusal) (old new : Printing) → IsSchedule schedule → bytes ≡ schedule_text schedule
    → StopsSweep schedule.nodes seed schedule.events (Refused refusal) old new → status ≡ status_of refusal → EndsOnSweep seed bytes status old new
refused_ends schedule bytes seed status refusal old new lawful text s is =
    broken_off schedule s.before s.after s.lines lawful text s.split s.swept s.taken (inl (is ∙ ap status_of s.why))
