-- A flush of a journal rests on what the flush's table asks for, and leaves the journal over the facts with the group's.
use Rattle.std.proofs.Common.{◌≡◌, ◌≢◌, ℕ, suc, ◌+◌, ◌^◌, ◌<◌, Bool, true, cond, eqb, ◌&&◌, List, [], ◌∷◌, ◌++◌, length, take, drop, get_or, None, Some, Result, Ok, Err, refl, sym, ap, subst, ◌∙◌, arith}
use Rattle.std.proofs.lemmas.Bool.{and_parts, and_from, eq-eqb}
use Rattle.std.proofs.lemmas.List.{append_assoc, take_at, drop_at, take-append-drop, length-append, length-take-le, get_or-drop}
use Rattle.rr_types.specs.declared.fact.Fact.{Fact}
use Rattle.rr_types.specs.declared.promise.Entry.{Entry}
use Rattle.rr_types.specs.Groups.{Grouped}
use Rattle.rr_types.specs.Standings.{fits}
use Rattle.rr_types.specs.Promises.{standing_in, take_on, take_on_all, promise_of, all_fit}
use Rattle.rr_types.specs.Facts.{instance_of}
use Rattle.rr_disk.specs.declared.area.Area.{Area}
use Rattle.rr_disk.specs.Crash.{Images}
use Rattle.rr_frame.specs.declared.version.Version.TheVariants.{Two}
use Rattle.rr_frame.specs.Numbers.{number_bytes}
use Rattle.rr_frame.specs.GroupFormat.{group_bytes, IsLawfulGroup}
use Rattle.rr_frame.proofs.FieldLaws.{length-number_bytes}
use Rattle.rr_frame.proofs.GroupLaws.{group_spelt}
use Rattle.rr_journal.specs.Flushes.{Flush}
use Rattle.rr_journal.specs.Moments.{image_of, with_image, body_written, gate_opened, with_group, IsGrounded}
use Rattle.rr_journal.proofs.FlushStates.{body_front, body_back, front_less}
use Rattle.rr_journal.specs.declared.journal.Journal.{Journal}
use Rattle.rr_journal.specs.Calls.{frame_bytes}
use Rattle.rr_journal.specs.Image as grammar
use Rattle.rr_journal.specs.Image.{Content, Found, Active, after_payload, content_from, active, found}
use Rattle.rr_journal.specs.Held.{StandsFor, Holds}
use Rattle.rr_journal.specs.Journals.{IsOver, once_flushed}
use Rattle.rr_journal.proofs.FrameLaws.{frame_again}
use Rattle.rr_journal.proofs.ReadingLaws.{one_frame, at_closed}
use Rattle.rr_journal.proofs.FoundLaws.{is_found}

take_on_more : (es : List Entry) (facts more : List Fact) → take_on_all es (facts ++ more) ≡ take_on_all (take_on_all es facts) more
take_on_more es [] more = refl
take_on_more es (f ∷ facts) more = take_on_more (take_on es f) facts more

fit_more : (n p : ℕ) (es : List Entry) (facts more : List Fact) → all_fit n p es (facts ++ more) ≡ true → all_fit n p (take_on_all es facts) more ≡ true
fit_more n p es [] more fit = fit
fit_more n p es (f ∷ facts) more fit = fit_more n p (take_on es f) facts more (and_parts (fits n p (standing_in es (instance_of f)) f) (all_fit n p (take_on es f) (facts ++ more)) fit).1

-- the content after a group that fits behind it
abbrev pub content_after : Content → Grouped → Content
content_after d g = record { epoch = d.epoch; promise = take_on_all d.promise g.facts; next = d.next + length g.facts; gate = d.gate + 5 + length (group_bytes g) }

group_taken : (n p : ℕ) (d : Content) (g : Grouped) → IsLawfulGroup g → g.serial ≡ d.next → all_fit n p d.promise g.facts ≡ true → after_payload Two n p d (group_bytes g) ≡ Some (content_after d g)
group_taken n p d g lawful serial fit =
    let is : (eqb g.serial d.next && all_fit n p d.promise g.facts) ≡ true = and_from _ _ (eq-eqb g.serial d.next serial) fit in
    ap (λ (r : Result Grouped ℕ). elim r [ Err offset ↦ None | Ok x ↦ grammar.with_group n p x (length (group_bytes g)) d ]) (group_spelt Two g lawful)
    ∙ ap (λ (t : Bool). cond t (Some (content_after d g)) None) is

-- an area whose front is known as far as a frame behind the last gate
record IsAppended (gate : ℕ) (front payload image : List ℕ) : Type 0 where
  there : gate < length image
  before : take gate image ≡ front
  behind : List ℕ
  frame : drop gate image ≡ 165 ∷ (number_bytes 4 (length payload) ++ (payload ++ (0 ∷ behind)))

pub frame_split : (payload junk : List ℕ) → frame_bytes payload ++ junk ≡ number_bytes 4 (length payload) ++ (payload ++ (0 ∷ junk))
frame_split payload junk =
    append_assoc (number_bytes 4 (length payload) ++ payload) (0 ∷ []) junk ∙ append_assoc (number_bytes 4 (length payload)) payload (0 ∷ junk)

appended : (gate : ℕ) (front payload image : List ℕ) → length front ≡ gate → take (gate + 1 + length (frame_bytes payload)) image ≡ front ++ 165 ∷ frame_bytes payload → IsAppended gate front payload image
appended gate front payload image long e =
    let junk : List ℕ = drop (gate + 1 + length (frame_bytes payload)) image in
    let whole : image ≡ front ++ (165 ∷ (frame_bytes payload ++ drop (gate + 1 + length (frame_bytes payload)) image)) =
    sym (take-append-drop (gate + 1 + length (frame_bytes payload)) image)
    ∙ ap (λ (b : List ℕ). b ++ drop (gate + 1 + length (frame_bytes payload)) image) e
    ∙ append_assoc front (165 ∷ frame_bytes payload) (drop (gate + 1 + length (frame_bytes payload)) image) in
    let rest : List ℕ = 165 ∷ (frame_bytes payload ++ drop (gate + 1 + length (frame_bytes payload)) image) in
    record {
      there = omega (arith, long, ap (λ (b : List ℕ). length b) whole, length-append front (165 ∷ (frame_bytes payload ++ drop (gate + 1 + length (frame_bytes payload)) image)));
      before = ap (take gate) whole ∙ take_at front (165 ∷ (frame_bytes payload ++ drop (gate + 1 + length (frame_bytes payload)) image)) gate long;
      behind = drop (gate + 1 + length (frame_bytes payload)) image;
      frame = ap (drop gate) whole ∙ drop_at front (165 ∷ (frame_bytes payload ++ drop (gate + 1 + length (frame_bytes payload)) image)) gate long
          ∙ ap (λ (b : List ℕ). 165 ∷ b) (frame_split payload (drop (gate + 1 + length (frame_bytes payload)) image));
    }

-- behind an open gate a group that fits is read, and nothing behind its closed gate
group_read : (k n p : ℕ) (d : Content) (g : Grouped) (junk : List ℕ) → IsLawfulGroup g → length (group_bytes g) < 2 ^ 32 → g.serial ≡ d.next → all_fit n p d.promise g.facts ≡ true
    → content_from Two (suc k) n p d (165 ∷ (number_bytes 4 (length (group_bytes g)) ++ (group_bytes g ++ (0 ∷ junk)))) ≡ Ok (content_after d g)
group_read k n p d g junk lawful short serial fit =
    one_frame Two k n p 165 d (content_after d g) (number_bytes 4 (length (group_bytes g)) ++ (group_bytes g ++ (0 ∷ junk))) (group_bytes g) (0 ∷ junk) refl
    (frame_again (group_bytes g) (0 ∷ junk) short (omega arith)) (group_taken n p d g lawful serial fit)
    ∙ at_closed Two k n p (content_after d g) (0 ∷ junk) (λ e. absurd (omega (arith, e)))

module _ (n p : ℕ) (start : Images) (facts : List Fact) (d : Content) (flush : Flush) (is : found n p start.of_first start.of_second ≡ Active flush.area d) (gate : d.gate ≡ flush.gate) where
  pub gate_there : flush.gate < length (image_of start flush.area)
  gate_there = omega (arith, gate, (is_found n p start flush.area d is).there)

  pub gate_closed : get_or (image_of start flush.area) flush.gate 0 ≢ 165
  gate_closed e = (is_found n p start flush.area d is).closed (ap (λ (k : ℕ). get_or (image_of start flush.area) k 0) gate ∙ e)

  -- bytes behind a closed gate mean nothing
  pub found_before : (image : List ℕ) → flush.gate < length image → take flush.gate image ≡ take flush.gate (image_of start flush.area) → get_or image flush.gate 0 ≢ 165
      → found n p (with_image start flush.area image).of_first (with_image start flush.area image).of_second ≡ Active flush.area d
  found_before image there same shut =
      let here : flush.gate ≡ d.gate + 0 = omega (arith, gate) in
      (is_found n p start flush.area d is).again image (omega (arith, gate, there)) (subst (λ (k : ℕ). take k image ≡ take k (image_of start flush.area)) (sym gate) same) (length image) (omega arith)
      ∙ ap (active Two flush.area) (at_closed Two (length image) n p d (drop d.gate image) (λ e. shut (ap (λ (k : ℕ). get_or image k 0) here ∙ sym (get_or-drop d.gate image 0 0) ∙ e)))

  -- behind an open gate stands the group
  pub found_after : flush.body ≡ frame_bytes (group_bytes flush.group) → IsLawfulGroup flush.group → length (group_bytes flush.group) < 2 ^ 32 → flush.group.serial ≡ d.next → all_fit n p d.promise flush.group.facts ≡ true
      → (image : List ℕ) → take (flush.gate + 1 + length flush.body) image ≡ take flush.gate (image_of start flush.area) ++ 165 ∷ flush.body
      → found n p (with_image start flush.area image).of_first (with_image start flush.area image).of_second ≡ Active flush.area (content_after d flush.group)
  found_after body lawful short serial fit image e =
      let long : length (take flush.gate (image_of start flush.area)) ≡ flush.gate = length-take-le flush.gate (image_of start flush.area) (omega (arith, gate_there)) in
      let a = appended flush.gate (take flush.gate (image_of start flush.area)) (group_bytes flush.group) image long
      (subst (λ (b : List ℕ). take (flush.gate + 1 + length b) image ≡ take flush.gate (image_of start flush.area) ++ 165 ∷ b) body e) in
      (is_found n p start flush.area d is).again image (omega (arith, gate, a.there)) (subst (λ (k : ℕ). take k image ≡ take k (image_of start flush.area)) (sym gate) a.before) (suc (length image)) (omega arith)
      ∙ ap (active Two flush.area) (
      ap (content_from Two (suc (length image)) n p d) (ap (λ (k : ℕ). drop k image) gate ∙ a.frame)
      ∙ group_read (length image) n p d flush.group a.behind lawful short serial fit
      )

-- an area once the body stands in it and the gate is open
pub opened : (flush : Flush) (bytes : List ℕ) → flush.gate < length bytes → take (flush.gate + 1 + length flush.body) (gate_opened flush (body_written flush bytes)) ≡ take flush.gate bytes ++ 165 ∷ flush.body
opened flush bytes there =
    let bodied = body_written flush bytes in
    let rest = drop (flush.gate + 1 + length flush.body) bytes in
    let front = take flush.gate bytes in
    let less = front_less flush.gate bodied bytes (body_front flush bytes there) in
    let long : length front ≡ flush.gate = length-take-le flush.gate bytes (omega (arith, there)) in
    let whole : gate_opened flush bodied ≡ (front ++ 165 ∷ flush.body) ++ rest =
    ap (λ bs. bs ++ (165 ∷ []) ++ drop (flush.gate + 1) bodied) less.0
    ∙ ap (λ bs. front ++ (165 ∷ []) ++ bs) (body_back flush bytes there)
    ∙ append_assoc front (165 ∷ []) (flush.body ++ rest)
    ∙ sym (append_assoc front (165 ∷ flush.body) rest) in
    ap (take (flush.gate + 1 + length flush.body)) whole ∙ take_at (front ++ 165 ∷ flush.body) rest (flush.gate + 1 + length flush.body) (length-append front (165 ∷ flush.body) ∙ omega (arith, long))

pub length-frame : (payload : List ℕ) → length (frame_bytes payload) ≡ 5 + length payload
length-frame payload = omega (arith, length-append (number_bytes 4 (length payload) ++ payload) (0 ∷ []), length-append (number_bytes 4 (length payload)) payload, length-number_bytes 4 (length payload))

module _ {D : Type 0} (journal : Journal D) (start : Images) (facts : List Fact) (flush : Flush) (over : IsOver journal start facts)
    (area : flush.area ≡ journal.area) (gate : flush.gate ≡ journal.gate) (body : flush.body ≡ frame_bytes (group_bytes flush.group)) (lawful : IsLawfulGroup flush.group) (short : length (group_bytes flush.group) < 2 ^ 32)
    (fit : all_fit journal.nodes journal.node [] (facts ++ flush.group.facts) ≡ true) (serial : flush.group.serial ≡ length facts) where
  now : Content
  now = record { epoch = journal.epoch; promise = promise_of facts; next = journal.next; gate = journal.gate }

  is_now : found journal.nodes journal.node start.of_first start.of_second ≡ Active flush.area now
  unfolding now
  is_now = over.active ∙ ap (λ (a : Area). Active a now) (sym area)

  next : journal.next ≡ length facts
  next = (subst (λ (f : Found). StandsFor f facts) over.active over.holds.stands).1

  stands_after : StandsFor (Active flush.area (content_after now flush.group)) (facts ++ flush.group.facts)
  unfolding now
  stands_after = (sym (take_on_more [] facts flush.group.facts), omega (arith, next, length-append facts flush.group.facts))

  found_grown : (image : List ℕ) → take (flush.gate + 1 + length flush.body) image ≡ take flush.gate (image_of start flush.area) ++ 165 ∷ flush.body
      → found journal.nodes journal.node (with_image start flush.area image).of_first (with_image start flush.area image).of_second ≡ Active flush.area (content_after now flush.group)
  unfolding now
  found_grown image e =
      found_after journal.nodes journal.node start facts now flush is_now (sym gate) body lawful short (serial ∙ sym next) (fit_more journal.nodes journal.node [] facts flush.group.facts fit) image e

  holds_grown : (image : List ℕ) → take (flush.gate + 1 + length flush.body) image ≡ take flush.gate (image_of start flush.area) ++ 165 ∷ flush.body
      → Holds journal.nodes journal.node (with_image start flush.area image) (facts ++ flush.group.facts)
  holds_grown image e = record { fit = fit; stands = subst (λ (f : Found). StandsFor f (facts ++ flush.group.facts)) (sym (found_grown image e)) stands_after }

  -- the flush rests on what its table asks for
  pub grounded : IsGrounded (Holds journal.nodes journal.node) flush start facts
  unfolding now
  grounded = record {
    there = gate_there journal.nodes journal.node start facts now flush is_now (sym gate);
    closed = gate_closed journal.nodes journal.node start facts now flush is_now (sym gate);
    before = λ image bytes there same shut. record {
      fit = over.holds.fit;
      stands = subst (λ (f : Found). StandsFor f facts) (is_now ∙ sym (found_before journal.nodes journal.node start facts now flush is_now (sym gate) image there same shut)) over.holds.stands;
    };
    after = λ image bytes e. holds_grown image e;
  }

  -- and leaves the journal over the facts with the group's
  pub over_after : IsOver (once_flushed flush journal) (with_group flush start) (facts ++ flush.group.facts)
  unfolding now
  over_after =
      let image = gate_opened flush (body_written flush (image_of start flush.area)) in
      let there = gate_there journal.nodes journal.node start facts now flush is_now (sym gate) in
      let e = opened flush (image_of start flush.area) there in
      let size : journal.gate + 5 + length (group_bytes flush.group) ≡ flush.gate + length flush.body = omega (arith, gate, ap (λ (b : List ℕ). length b) body, length-frame (group_bytes flush.group)) in
      let count : journal.next + length flush.group.facts ≡ flush.group.serial + length flush.group.facts = omega (arith, next, serial) in
      let promise : take_on_all (promise_of facts) flush.group.facts ≡ promise_of (facts ++ flush.group.facts) = sym (take_on_more [] facts flush.group.facts) in
      record {
        holds = holds_grown image e;
        active = found_grown image e ∙ (λ i. Active (area i) (record { epoch = journal.epoch; promise = promise i; next = count i; gate = size i }));
      }
