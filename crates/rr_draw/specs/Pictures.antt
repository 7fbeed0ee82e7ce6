-- Which run a picture shows.
use Rattle.std.specs.Prelude.{◌≡◌, ℕ, ◌+◌, Bool, true, false, ◌&&◌, ◌||◌, ◌==◌, nat_le, if◌then◌else◌, List, [], ◌∷◌, ◌++◌, codes, decimal}
use Rattle.std.specs.Option.{option_map_or}
use Rattle.std.specs.List.{flat_map}
use Rattle.rr_text.specs.declared.event.Event.{Event}
use Rattle.rr_text.specs.Lines.{nodes_line}
use Rattle.rr_text.specs.ScheduleTexts.{event_line}
use Rattle.rr_sim.specs.Clusters.{Cluster, new_cluster, Steps, IsSpeltBehind}
use Rattle.rr_sim.specs.Told.{told, TellsAll, IsReportOn}
use Rattle.rr_text.specs.declared.report.ReportLine.{ReportLine}
use Rattle.rr_draw.specs.declared.cut.Cut.{Cut}
use Rattle.rr_draw.specs.declared.fate.Heard.{Heard}
use Rattle.rr_draw.specs.Fates.{Seen, speaks, may_tell_facts, heard_by, heard_at, Keeps, IsHearing}
use Rattle.rr_draw.specs.Labels.{heard_words}

-- how SVG spells a byte of a text
abbrev pub escaped : ℕ → List ℕ
escaped b =
    if b == 38 then codes "&amp;"
    else (if b == 60 then codes "&lt;"
    else (if b == 62 then codes "&gt;"
    else (if b == 34 then codes "&quot;"
    else b ∷ [])))

-- how JSON in a script of HTML spells a byte: HTML would read the one that begins an element, so JSON has it by its number
abbrev pub in_script : ℕ → List ℕ
in_script b = if b == 60 then 92 ∷ codes "u003c" else b ∷ []

-- whether the event of a line lies within the lines and the node of a cut
abbrev pub shows : Cut → ℕ → Event → Bool
shows cut at e = nat_le cut.from at && nat_le at cut.to && option_map_or (λ p. p == e.node) cut.node true

-- events, of which the first stands on this line, lead from one cluster to another; each is seen with the lines that the step at
-- it adds, and no others, and with the messages that were sent by then
abbrev pub AreSeen : ℕ → List Seen → Cluster → Cluster → Type 0
AreSeen at [] old new = new ≡ old
AreSeen at (seen ∷ all) old new =
    (next : Cluster) × Steps at seen.event old next × (next.lines ≡ old.lines ++ seen.lines) × (seen.wire ≡ next.wire) × AreSeen (at + 1) all next new

-- the line of an event
abbrev pub line_of : Seen → List ℕ
line_of seen = event_line seen.event

-- what the report has of it
abbrev pub told_of : Seen → List ℕ
told_of seen = told seen.lines

-- what the title of the event of a line begins with: the line's number, the event and what the report has of it
abbrev pub title_of : ℕ → Event → List ReportLine → List ℕ
title_of at e lines = codes "line " ++ decimal at ++ codes ": " ++ event_line e ++ told lines

-- an element with a title, more behind it, and shapes
abbrev pub element : List ℕ → List ℕ → List ℕ → List ℕ
element title more shapes = codes "<g><title>" ++ flat_map escaped title ++ more ++ codes "</title>" ++ shapes ++ codes "</g>\n"

-- the element of the event of a line. Its title ends with the message that the event hears, and its shapes begin with that one's
-- arrow, by those that were heard before
pub record IsElement (cut : Cut) (at : ℕ) (before : List ℕ) (seen : Seen) (text : List ℕ) : Type 0 where
  pub arrow : List ℕ
  pub others : List ℕ
  pub is_arrow : IsHearing cut before (heard_by seen.event seen.lines seen.wire) arrow
  pub text_is : text ≡ element (title_of at seen.event seen.lines) (heard_words (heard_by seen.event seen.lines seen.wire)) (arrow ++ others)

-- what a picture has of the event of a line: its element, or nothing where the cut doesn't show it. Where an instance is given, an
-- event that doesn't speak of it is left out too; but it may be shown where it may sync or mark facts
pub data IsDrawn (cut : Cut) (at : ℕ) (before : List ℕ) (seen : Seen) (text : List ℕ) : Type 0 where
  drawn : shows cut at seen.event ≡ true → (speaks cut seen || may_tell_facts seen.event) ≡ true → IsElement cut at before seen text
      → IsDrawn cut at before seen text
  left_out : shows cut at seen.event ≡ false → text ≡ [] → IsDrawn cut at before seen text
  of_another_instance : speaks cut seen ≡ false → text ≡ [] → IsDrawn cut at before seen text

-- what a picture has of events, of which the first stands on this line, where these messages were heard before them
abbrev pub AreDrawn : Cut → ℕ → List ℕ → List Seen → List ℕ → Type 0
AreDrawn cut at before [] text = text ≡ []
AreDrawn cut at before (seen ∷ all) text =
    (mine rest : List ℕ) × (text ≡ mine ++ rest) × IsDrawn cut at before seen mine × AreDrawn cut (at + 1) (before ++ heard_at seen) all rest

-- a text has grown by what a picture has of the event of a line
pub record Adds (cut : Cut) (at : ℕ) (before : List ℕ) (seen : Seen) (old new : List ℕ) : Type 0 where
  pub mine : List ℕ
  pub grew : new ≡ old ++ mine
  pub is_drawn : IsDrawn cut at before seen mine

-- what is seen at an event that led to a cluster, which has its lines alone
abbrev pub seen_at : Event → Cluster → Seen
seen_at e c = record { event = e; lines = c.lines; wire = c.wire }

-- the event of a line is made; the report has grown by what it has of that, and the elements by what a picture has of it. What
-- was heard is kept
pub record ShowsOne (cut : Cut) (at : ℕ) (event : Event) (old new : Cluster) (before after elements more : List ℕ) (heard hears : Heard) : Type 0 where
  pub next : Cluster
  pub steps : Steps at event old next
  pub spelt : IsSpeltBehind event old next
  pub kept : new ≡ record next { lines = [] }
  pub grew : after ≡ before ++ told next.lines
  pub adds : (heard_before : List ℕ) → Keeps heard heard_before → Adds cut at heard_before (seen_at event next) elements more
  pub keeps : (heard_before : List ℕ) → Keeps heard heard_before → Keeps hears (heard_before ++ heard_at (seen_at event next))

-- the bytes are the lines of events among n nodes, which lead a cluster to another; a report has grown by what each of them
-- tells, and the elements are what a picture has of them
pub record ShowsAll (n : ℕ) (bytes : List ℕ) (cut : Cut) (old new : Cluster) (before after elements : List ℕ) : Type 0 where
  pub all : List Seen
  pub tells : TellsAll n bytes old new before after
  pub read : bytes ≡ flat_map line_of all
  pub told : after ≡ before ++ flat_map told_of all
  pub at_the_end : Cluster
  pub are_seen : AreSeen 2 all old at_the_end
  pub are_drawn : AreDrawn cut 2 [] all elements

-- the text is a picture of the run of the schedule whose text the bytes are: it has what it draws of each of its events, in
-- their order, beside the lines of the report that the step at this event adds
pub record IsPictureOf (cut : Cut) (bytes text : List ℕ) : Type 0 where
  pub nodes : ℕ
  pub all : List Seen
  pub decided : List ℕ
  pub front : List ℕ
  pub middle : List ℕ
  pub back : List ℕ
  pub at_the_end : Cluster
  pub read : bytes ≡ nodes_line nodes ++ flat_map line_of all
  pub told : IsReportOn bytes (flat_map told_of all ++ decided)
  pub are_seen : AreSeen 2 all (new_cluster nodes) at_the_end
  pub are_drawn : AreDrawn cut 2 [] all middle
  pub whole : text ≡ front ++ middle ++ back
