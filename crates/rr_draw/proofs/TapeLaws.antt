-- A picture of a tape that grows event by event is one of all of them.
use Rattle.std.proofs.Common.{◌≡◌, ℕ, ◌+◌, List, [], ◌∷◌, ◌++◌, length, refl, ap, sym, ◌∙◌, subst, arith, append_assoc}
use Rattle.std.specs.List.{flat_map}
use Rattle.std.proofs.lemmas.List.{append-nil}
use Rattle.rr_types.specs.declared.message.Message.{Message}
use Rattle.rr_text.specs.declared.tape_event.TapeEvent.{TapeEvent}
use Rattle.rr_audit.specs.Audits.{sent_by}
use Rattle.rr_sim.proofs.ToldLaws.{lines_push}
use Rattle.rr_draw.specs.declared.cut.Cut.{Cut}
use Rattle.rr_draw.specs.declared.fate.Heard.{Heard}
use Rattle.rr_draw.specs.Fates.{Seen, heard_at, hearings, Keeps}
use Rattle.rr_draw.specs.Pictures.{AreDrawn, Adds}
use Rattle.rr_draw.specs.TapePictures.{seen_on, all_on}
use Rattle.rr_draw.proofs.PictureLaws.{are_drawn_push}

sent_push : (es : List TapeEvent) (e : TapeEvent) → flat_map sent_by (es ++ e ∷ []) ≡ flat_map sent_by es ++ sent_by e
sent_push [] e = append-nil (sent_by e)
sent_push (x ∷ xs) e = ap (λ (w : List Message). sent_by x ++ w) (sent_push xs e) ∙ sym (append_assoc (sent_by x) (flat_map sent_by xs) (sent_by e))

-- what is seen of events, and of one more
all_push : (before : List Message) (es : List TapeEvent) (e : TapeEvent) → all_on before (es ++ e ∷ []) ≡ all_on before es ++ seen_on (before ++ (flat_map sent_by es ++ sent_by e)) e ∷ []
all_push before [] e = refl
all_push before (x ∷ xs) e =
    let regrouped : (before ++ sent_by x) ++ (flat_map sent_by xs ++ sent_by e) ≡ before ++ ((sent_by x ++ flat_map sent_by xs) ++ sent_by e) =
    append_assoc before (sent_by x) (flat_map sent_by xs ++ sent_by e) ∙ ap (λ (w : List Message). before ++ w) (sym (append_assoc (sent_by x) (flat_map sent_by xs) (sent_by e))) in
    ap (λ (all : List Seen). seen_on (before ++ sent_by x) x ∷ all)
    (all_push (before ++ sent_by x) xs e ∙ ap (λ (w : List Message). all_on (before ++ sent_by x) xs ++ seen_on w e ∷ []) regrouped)

as_many : (before : List Message) (es : List TapeEvent) → length (all_on before es) ≡ length es
as_many before [] = refl
as_many before (e ∷ es) = let more = as_many (before ++ sent_by e) es in omega (arith, more)

-- the events so far are drawn, their messages are on the wire, and what they heard is kept
pub record DrawnSoFar (cut : Cut) (es : List TapeEvent) (number : ℕ) (wire : List Message) (elements : List ℕ) (heard : Heard) : Type 0 where
  pub numbered : number ≡ 2 + length es
  pub are_drawn : AreDrawn cut 2 [] (all_on [] es) elements
  pub sent : wire ≡ flat_map sent_by es
  pub keeps : Keeps heard (hearings (all_on [] es))

pub drawn_none : (cut : Cut) (wire : List Message) (elements : List ℕ) (heard : Heard) → wire ≡ [] → elements ≡ [] → Keeps heard [] → DrawnSoFar cut [] 2 wire elements heard
drawn_none cut wire elements heard unsent none unheard = record { numbered = refl; are_drawn = none; sent = unsent; keeps = unheard }

pub drawn_more : (cut : Cut) (es more : List TapeEvent) (e : TapeEvent) (number next_number : ℕ) (wire longer : List Message) (old new : List ℕ) (heard hears : Heard)
    → DrawnSoFar cut es number wire old heard → more ≡ es ++ e ∷ [] → longer ≡ wire ++ sent_by e → next_number ≡ number + 1
    → ((before : List ℕ) → Keeps heard before → Adds cut number before (seen_on longer e) old new)
    → ((before : List ℕ) → Keeps heard before → Keeps hears (before ++ heard_at (seen_on longer e)))
    → DrawnSoFar cut more next_number longer new hears
drawn_more cut es more e number next_number wire longer old new heard hears h is grew counts adds_to keeps_on =
    let sent_on : longer ≡ flat_map sent_by es ++ sent_by e = grew ∙ ap (λ (w : List Message). w ++ sent_by e) h.sent in
    let all : all_on [] more ≡ all_on [] es ++ seen_on longer e ∷ [] = ap (all_on []) is ∙ all_push [] es e ∙ ap (λ (w : List Message). all_on [] es ++ seen_on w e ∷ []) (sym sent_on) in
    let long : length (all_on [] es) ≡ length es = as_many [] es in
    let longer_by_one : length more ≡ length es + 1 = ap length is ∙ by es in
    let adds : Adds cut number (hearings (all_on [] es)) (seen_on longer e) old new = adds_to (hearings (all_on [] es)) h.keeps in
    record {
      numbered = omega (arith, counts, h.numbered, longer_by_one);
      are_drawn = subst (λ (t : List ℕ). AreDrawn cut 2 [] (all_on [] more) t) (sym adds.grew)
          (subst (λ (ss : List Seen). AreDrawn cut 2 [] ss (old ++ adds.mine)) (sym all)
          (are_drawn_push cut 2 number [] (all_on [] es) old (seen_on longer e) adds.mine (omega (arith, h.numbered, long)) h.are_drawn adds.is_drawn));
      sent = sent_on ∙ sym (sent_push es e) ∙ sym (ap (flat_map sent_by) is);
      keeps = subst (λ (ks : List ℕ). Keeps hears ks) (sym (ap hearings all ∙ lines_push heard_at (all_on [] es) (seen_on longer e))) (keeps_on (hearings (all_on [] es)) h.keeps);
    }
  where
    by : (xs : List TapeEvent) → length (xs ++ e ∷ []) ≡ length xs + 1
    by [] = refl
    by (x ∷ xs) = let more_by = by xs in omega (arith, more_by)
